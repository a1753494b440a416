pub mod SeedingLaws
