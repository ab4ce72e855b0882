pub mod IndexedMaps
