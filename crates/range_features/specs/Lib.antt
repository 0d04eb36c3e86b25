pub mod MetPairs
