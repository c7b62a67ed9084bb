pub mod Fault  -- faults, and results one after another
pub mod Kept  -- the fields before the first fault
pub mod Reader  -- what a reader finds
pub mod Chain  -- functions that read step by step
pub mod Store  -- functions that judge and store step by step
pub mod Holds  -- fields in bytes
pub mod Law  -- lawful formats, and each way of building one
pub mod Round  -- whole files: read, written, refused
pub mod Gives  -- which numbers judging can give
pub mod Refuses  -- which numbers reading can give
pub mod Bounded  -- how many bits reading takes at most
pub mod Cut  -- which bits reading needs
