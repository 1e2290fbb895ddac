mod GivenLemmas
mod NumberLemmas
mod WordLemmas
