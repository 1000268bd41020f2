mod Unscrubbed
