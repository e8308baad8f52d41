pub mod Texts
pub mod Trees
pub mod Tree
pub mod Generated
pub mod GeneratedTree
pub mod Met
