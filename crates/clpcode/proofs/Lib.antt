mod Texts
mod Endings
mod Listings
