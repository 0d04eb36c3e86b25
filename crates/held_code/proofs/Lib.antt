mod Renaming
mod ListItems
mod Sizes
