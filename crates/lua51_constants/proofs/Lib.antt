pub mod ConstantLines
