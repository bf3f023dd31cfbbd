pub mod Component
pub mod Catalog
pub mod Library
pub mod Tables
