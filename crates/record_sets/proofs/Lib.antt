mod ListSets
