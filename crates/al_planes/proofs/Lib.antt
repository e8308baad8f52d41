pub mod Blocks
pub mod Bits
pub mod LineBits
pub mod MaskLines
