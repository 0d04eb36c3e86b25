mod MetPairs
