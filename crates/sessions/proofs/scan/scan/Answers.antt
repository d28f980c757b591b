-- `scan::scan` meets its contract: by a key or by age.
use mathlib.Core.Path.{◌≡◌, sym, ap, ◌∙◌}
use mathlib.Core.List.{List}
use Prim.Native.Nat.{ℕ}
use lib.Dec.{eqb}
use Rattle.keys.specs.inside.Keys.{word_at, lowest}
use Rattle.rules.specs.Limits.{sessions_max}
use Rattle.sessions.specs.inside.Scan.{old_at, fits_at}
use Rattle.sessions.specs.declared.scan.Want.{Want}
use Rattle.sessions.specs.declared.scan.Want.TheVariants.{Key, Old}
use Rattle.state.specs.Layout.{stream_keys_at, key_at}
use Rattle.sessions.proofs.scan.scan.Goals as goal

module _ (m : List ℕ) (w : Want) where
  by_key : (k : ℕ) → w ≡ Key k → lowest (λ i. eqb (word_at m stream_keys_at i) k) 0 sessions_max ≡ lowest (fits_at m w) 0 sessions_max
  unfolding fits_at key_at
  by_key k e = ap (λ x. lowest (fits_at m x) 0 sessions_max) (sym e)

  by-age : (t : ℕ) → w ≡ Old t → lowest (old_at m t) 0 sessions_max ≡ lowest (fits_at m w) 0 sessions_max
  unfolding fits_at
  by-age t e = ap (λ x. lowest (fits_at m x) 0 sessions_max) (sym e)

pub returns-in-Key : goal.returns-in-Key
returns-in-Key c = c.find.ensures ∙ by_key _ _ _ c.in-Key.is

pub returns-in-Old : goal.returns-in-Old
returns-in-Old c = c.lowest_old.ensures ∙ by-age _ _ _ c.in-Old.is
