pub mod LoopNodes
