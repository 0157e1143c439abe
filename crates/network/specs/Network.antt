-- Boards that pass letters: what a network is, and what a state of it is. L is the type of a letter, S that of a board's
-- own state. Boards are numbers; a function of board numbers says something of every board, so a state needs no bounds.
use Rattle.std.specs.Prelude.{ℕ, List}

-- What a board does next, as its own state alone decides.
pub data Step (L S : Type 0) : Type 0 where
  -- nothing: it has ended
  ends : Step L S
  -- goes on alone, in the state given
  goes_on : S → Step L S
  -- puts a letter to a board, and goes on in the state given
  puts : ℕ → L → S → Step L S
  -- takes a letter from a board, and goes on by the letter that it took
  takes : ℕ → (L → S) → Step L S

-- A network: its boards are those below a count, and each has its next step by its own state.
pub record Network (L S : Type 0) : Type 0 where
  pub boards : ℕ
  pub next : ℕ → S → Step L S

-- A state of a network: each board's own state, and for each sender and receiver the row of waiting letters, oldest first.
pub record State (L S : Type 0) : Type 0 where
  pub own : ℕ → S
  pub row : ℕ → ℕ → List L
