-- What is known of parts of lists.
mod Pasting
