pub mod Counterexample
