pub mod LeafSearch
pub mod Laws
