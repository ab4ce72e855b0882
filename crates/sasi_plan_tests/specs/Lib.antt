pub mod Fixture
