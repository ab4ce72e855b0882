pub mod IndexedMapLaws
