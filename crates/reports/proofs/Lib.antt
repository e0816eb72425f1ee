pub mod FactByFact
