pub mod Lists
pub mod KeysTotal
