-- Records of one ID that go in together.
use Rattle.std.specs.Prelude.{◌≡◌, List, [], ◌∷◌, ℕ, ◌≤◌, ◌<◌, leb}
use Rattle.rules.specs.Tests.{pick}
use Rattle.queue.specs.Queue.{Record, id_of}

-- the records i to e of the first k have the ID of the first of them
pub record Run (f : ℕ → Record) (i e k : ℕ) : Type 0 where
  pub some : i < e
  pub within : e ≤ k
  pub alike : (j : ℕ) → i ≤ j → j < e → id_of (f j) ≡ id_of (f i)

-- the records that go before a new one of an ID, and the others
unfoldable pub front : ℕ → List Record → List Record
front id [] = []
front id (x ∷ q) = pick (leb (id_of x) id) (x ∷ front id q) []

unfoldable pub behind : ℕ → List Record → List Record
behind id [] = []
behind id (x ∷ q) = pick (leb (id_of x) id) (behind id q) (x ∷ q)
