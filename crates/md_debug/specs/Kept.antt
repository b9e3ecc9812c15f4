-- The states that the debugger can go back to, in whole pages. This project's profile.
use Rattle.std.specs.Prelude.{◌≡◌, ℕ, ◌+◌, ◌-◌, ◌*◌, ◌≤◌, List, ◌++◌, length, replicate}
use Rattle.page_ring.specs.Kept.{Ring}

-- how many pages there are for all states
abbrev pub all_pages : ℕ
all_pages = 16384

-- how many pages a state has
abbrev pub per_state : ℕ
per_state = 97

-- how many bytes those are
abbrev pub state_size : ℕ
state_size = per_state * 4096

-- an image in whole pages, followed by zeros
abbrev pub padded : List ℕ → List ℕ
padded image = image ++ replicate (state_size - length image) 0

-- how many states there can be: the oldest takes all of its pages, and each later one at least one
abbrev pub most_states : ℕ
most_states = all_pages - per_state + 1

-- the states and their cycles, newest first, and the state that was fetched last
pub record KeptValue : Type 0 where
  pub states : List (List ℕ)
  pub cycles : List ℕ
  pub fetched : List ℕ

-- each state has its cycle, and there is room for the cycles of all and for one state
pub record IsKept (ring : Ring) (cycles : List ℕ) (room : ℕ) (bytes : List ℕ) : Type 0 where
  pub all : ring.pages ≡ all_pages
  pub each : ring.per_state ≡ per_state
  pub as_many : length cycles ≡ length ring.states
  pub enough : most_states ≤ room
  pub size : length bytes ≡ state_size
