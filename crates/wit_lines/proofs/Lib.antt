pub mod CallLemmas
pub mod CountLemmas
pub mod KnownFiles
pub mod ListedTypes
pub mod LongLines
pub mod ReportLemmas
pub mod WorldLemmas
pub mod WrittenLemmas
