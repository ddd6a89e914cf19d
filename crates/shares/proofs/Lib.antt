pub mod TwoBuffers
