pub mod GatheredSoFar
