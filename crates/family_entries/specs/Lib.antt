pub mod InnerEntries
