pub mod Reading
pub mod Tests
pub mod Calls
pub mod RoundTrips
pub mod inner
