-- What a reader must believe, in the order and the words of document 01, with document 02's CR 1 to CR 3 where they belong.
pub mod Lists
pub mod Entered
pub mod Letters
pub mod Places
pub mod Matches
pub mod Codes
pub mod Chains
pub mod Records
pub mod Listing
pub mod Earlier
pub mod Rooms
pub mod Strands
pub mod Answers
pub mod Examples
