-- A place whose content is known: its key, its session and its blocks, field by field.
use mathlib.Core.Path.{◌≡◌, refl, sym, ap, ◌∙◌}
use mathlib.Core.Bool.{Bool, true, false}
use mathlib.Core.List.{List}
use Prim.Native.Nat.{ℕ, ◌<◌}
use native.Mathlib.Omega.{arith}
use borrow.Author.Tests.{eqb-false}
use lib.Dec.{eqb}
use lib.ListN.{length}
use Rattle.bits.specs.Order.{Octets}
use Rattle.frame.specs.Key.{key_of, stream_of_key}
use Rattle.rules.specs.Blocks.{blocks_in}
use Rattle.rules.specs.Frame.{Stream}
use Rattle.rules.specs.Limits.{sessions_max}
use Rattle.rules.specs.Session.{Session}
use Rattle.rules.specs.Table.{Place, empty, held}
use Rattle.rules.specs.Tests.{pick}
use Rattle.session.specs.inside.Session.{coded}
use Rattle.sessions.specs.inside.Place.{coded_at}
use Rattle.state.proofs.Held.{hand-length}
use Rattle.state.proofs.Keys.{key-stream}
use Rattle.state.proofs.Soundness.{key-lt}
use Rattle.state.specs.Layout.{key_at, count_at, blocks_of, session_at, place_at}
use Rattle.state.specs.inside.Ready.{Ready}

abbrev session_or : Session → Place → Session
session_or s empty = s
session_or s (held d t bs) = t

abbrev stream_or : Stream → Place → Stream
stream_or d empty = d
stream_or d (held e t bs) = e

module _ (m : List ℕ) (r : Ready m) (bytes : Octets m) (i : ℕ) (inside : i < sessions_max) (d : Stream) (s : Session) (bs : List ℕ) (e : place_at m i ≡ held d s bs) where
  is_held : (key_at m i ≡ 0 → ⊥) × (held (stream_of_key (key_at m i)) (session_at m i) (blocks_of m i) ≡ held d s bs)
  unfolding place_at
  is_held = go (eqb (key_at m i) 0) refl e
    where
      go : (b : Bool) → eqb (key_at m i) 0 ≡ b → pick b empty (held (stream_of_key (key_at m i)) (session_at m i) (blocks_of m i)) ≡ held d s bs
          → (key_at m i ≡ 0 → ⊥) × (held (stream_of_key (key_at m i)) (session_at m i) (blocks_of m i) ≡ held d s bs)
      go true z q = let z : ◌≡◌ {A = ℕ} 0 1 = cc in absurd (omega arith)
      go false z q = (eqb-false (key_at m i) 0 z, q)

  pub session-is : session_at m i ≡ s
  session-is = ap (λ (x : Place). session_or s x) is_held.1

  pub blocks-are : blocks_of m i ≡ bs
  blocks-are = ap blocks_in is_held.1

  pub key-is : (k : ℕ) → k < 4294967296 → stream_of_key k ≡ d → key_at m i ≡ k
  key-is k word z =
      sym (key-stream (key_at m i) (key-lt m bytes r.long i inside)) ∙ ap key_of (ap (λ (x : Place). stream_or d x) is_held.1 ∙ sym z) ∙ key-stream k word

  pub count-is : length s.gathered ≡ count_at m i
  unfolding session_at
  count-is = sym (ap (λ (x : Session). length x.gathered) session-is) ∙ hand-length m r bytes i inside is_held.0

  pub coded-as : coded s ≡ coded_at m i
  unfolding coded_at session_at
  coded-as =
      ap coded (sym session-is)
      ∙ ap (λ (n : ℕ). record { expected = (session_at m i).expected; toggle = (session_at m i).toggle; time = (session_at m i).since; follows = (session_at m i).follows; len = n })
      (hand-length m r bytes i inside is_held.0)
