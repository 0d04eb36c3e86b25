mod TableOrder
