pub mod OneEncoding
