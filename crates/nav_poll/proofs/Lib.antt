-- Which clause rests on which file. That a session stands for its starts: on Standing and Turned, which Fronts, Lines, Pulled
-- and Pushed serve; `polled_sessions_keep_to_script` on Scripts.
mod Fronts
mod Lines
mod Pulled
mod Pushed
mod Scripts
mod Standing
mod Turned
