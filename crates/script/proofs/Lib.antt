mod More
mod Sections
