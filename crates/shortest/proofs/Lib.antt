pub mod CallLaws
pub mod Finding
pub mod Tops
pub mod Walks
