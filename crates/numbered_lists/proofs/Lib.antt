mod Appended
mod Meetings
