pub mod Faults
pub mod Serves
pub mod Sending
pub mod Gathering
pub mod ValueReply
pub mod Outcomes
pub mod Ranges
pub mod ShortReplies
