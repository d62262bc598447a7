pub mod MemorySink
