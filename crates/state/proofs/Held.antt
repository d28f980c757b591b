-- A place that is held, in a state that the functions after the checks get.
use mathlib.Core.Path.{◌≡◌, sym, ap, subst, ◌∙◌}
use mathlib.Core.Bool.{true, false}
use mathlib.Core.List.{List}
use Prim.Native.Nat.{ℕ, ◌≤◌, ◌<◌}
use native.Mathlib.Omega.{arith}
use borrow.Author.Tests.{leb-true, ne_eqb}
use lib.Dec.{eqb}
use lib.ListN.{length, get_or}
use Rattle.bits.proofs.Every.{every-at}
use Rattle.bits.specs.Order.{Octets}
use Rattle.rules.proofs.Lasting.{Fits, test_fits, at-fits}
use Rattle.rules.specs.Blocks.{blocks_in}
use Rattle.rules.specs.Limits.{sessions_max, gathered_max}
use Rattle.rules.specs.Sound.{stream_fits, session_fits, place_fits}
use Rattle.rules.specs.Table.{empty, held}
use Rattle.frame.specs.Key.{stream_of_key}
use Rattle.state.specs.Layout.{key_at, count_at, blocks_of, gathered_at, session_at, place_at, places_of}
use Rattle.state.specs.Sound.{raw_fits}
use Rattle.state.specs.inside.Ready.{Ready, Small}
use Rattle.state.proofs.Bools.{and_left, and_right}
use Rattle.state.proofs.Good.{ready-shared, small_at}
use Rattle.state.proofs.Table.{place_of}
use Rattle.state.proofs.View.{gathered-length}

module _ (m : List ℕ) (r : Ready m) (bytes : Octets m) (i : ℕ) (in_table : i < sessions_max) (some : key_at m i ≡ 0 → ⊥) where
  pub count-le : count_at m i ≤ gathered_max
  unfolding raw_fits
  count-le =
      let z : eqb (key_at m i) 0 ≡ false = ne_eqb (key_at m i) 0 some in
      leb-true (count_at m i) gathered_max (rw z at (every-at (raw_fits m) sessions_max 0 r.raw i (omega arith) (omega arith)))

  pub place-held : place_at m i ≡ held (stream_of_key (key_at m i)) (session_at m i) (blocks_of m i)
  unfolding place_at
  place-held = rw (ne_eqb (key_at m i) 0 some)

  -- the same as the table has it
  pub table-held : get_or (places_of m) i empty ≡ held (stream_of_key (key_at m i)) (session_at m i) (blocks_of m i)
  table-held = place_of m i in_table ∙ place-held

  pub fits-at : place_fits (held (stream_of_key (key_at m i)) (session_at m i) (blocks_of m i)) ≡ true
  fits-at = ap place_fits (sym table-held) ∙ at-fits (places_of m) i r.fit

  pub stream-fits : stream_fits (stream_of_key (key_at m i)) ≡ true
  stream-fits = and_left (stream_fits (stream_of_key (key_at m i))) _ fits-at

  pub session-fits : Fits (session_at m i)
  session-fits = test_fits (session_at m i) (and_left (session_fits (session_at m i)) _ (and_right (stream_fits (stream_of_key (key_at m i))) _ fits-at))

  pub small : Small (blocks_of m i)
  small = subst (λ p. Small (blocks_in p)) table-held (small_at (places_of m) i (ready-shared m r bytes))

  pub hand-length : length (gathered_at m i) ≡ count_at m i
  hand-length = gathered-length m i r.long in_table bytes count-le small
