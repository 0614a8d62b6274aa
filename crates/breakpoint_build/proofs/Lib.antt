pub mod KeyLists
pub mod MarkedTables
pub mod RealForms
