pub mod KeyRefs
