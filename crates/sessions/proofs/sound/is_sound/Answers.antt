-- `sound::is_sound` meets its contract, test by test.
use mathlib.Core.Path.{◌≡◌, sym, ap, ◌∙◌}
use mathlib.Core.Bool.{Bool, true, false, ◌&&◌}
use mathlib.Core.List.{List}
use Prim.Native.Nat.{ℕ, ◌≤◌, ◌<◌}
use native.Mathlib.Omega.{arith}
use borrow.Author.Tests.{lt-leb, le-leb, lt-ltb, le-ltb}
use lib.Dec.{ltb}
use lib.ListN.{length, get_or}
use Rattle.bits.specs.Order.{Octets}
use Rattle.bits.proofs.Octets.{octets-all}
use Rattle.bits.proofs.Tabulate.{length-tabulate}
use Rattle.keys.specs.inside.Keys.{distinct}
use Rattle.rules.specs.Limits.{sessions_max, subscriptions_max}
use Rattle.rules.specs.Setup.{acceptable, all_fit}
use Rattle.sessions.specs.inside.Sound.{empty_or_fits, keys_of, shares}
use Rattle.sessions.proofs.Soundness.{whole}
use Rattle.state.specs.Layout.{own_at, subscription_count_at, size, key_at, setup_of, subscription_at}
use Rattle.bits.specs.Tabulate.{every}
use Rattle.state.specs.Sound.{sound_state}
use borrow.Author.Rules.{rules}
use Rattle.sessions.proofs.sound.is_sound.Goals as goal

module _ (m : List ℕ) where
  short : length m < size → false ≡ sound_state m
  unfolding sound_state
  short h = rw (lt-leb size (length m) h)

  module _ (long : size ≤ length m) where
    large-own : 127 < get_or m own_at 0 → false ≡ sound_state m
    unfolding sound_state acceptable setup_of
    large-own h = let o : ltb (get_or m own_at 0) 128 ≡ false = le-ltb (get_or m own_at 0) 128 (omega arith) in rw (le-leb size (length m) long, o)

    module _ (own : get_or m own_at 0 ≤ 127) where
      abbrev n : ℕ
      n = get_or m subscription_count_at 0

      named : ltb (get_or m own_at 0) 128 ≡ true
      named = lt-ltb (get_or m own_at 0) 128 (omega arith)

      too_many : subscriptions_max < n → false ≡ sound_state m
      unfolding sound_state acceptable setup_of
      too_many h = rw (le-leb size (length m) long, named, length-tabulate (subscription_at m) 0 n, lt-leb n subscriptions_max h)

      -- after the length and the numbers: subscriptions, then places
      module _ (few : n ≤ subscriptions_max) (b : Bool) (fit : all_fit (setup_of m).subscriptions ≡ b) (bytes : Octets m) where
        tested : (b && ((every (empty_or_fits m) 0 sessions_max && distinct (keys_of m)) && shares m)) ≡ sound_state m
        unfolding sound_state acceptable setup_of
        tested = rw (whole m bytes long, le-leb size (length m) long, named, length-tabulate (subscription_at m) 0 n, le-leb n subscriptions_max few, fit)

pub returns-then-state-lt-SIZE : goal.returns-then-state-lt-SIZE
returns-then-state-lt-SIZE c = short _ c.if-state-lt-SIZE.true

pub returns-then-state-gt127 : goal.returns-then-state-gt127
returns-then-state-gt127 c = large-own _ c.if-state-lt-SIZE.false c.if-state-gt127.true

pub returns-then-state-gt-SUBSCRIPTIONS : goal.returns-then-state-gt-SUBSCRIPTIONS
returns-then-state-gt-SUBSCRIPTIONS c = too_many _ c.if-state-lt-SIZE.false c.if-state-gt127.false c.if-state-gt-SUBSCRIPTIONS.true

pub places_sound-requires : goal.places_sound-requires
unfolding key_at
places_sound-requires c = (omega arith, c.load.ensures)

pub returns-then-all_fit : goal.returns-then-all_fit
unfolding key_at
returns-then-all_fit c =
    let m = c.args.state.now in
    let bytes = octets-all m (search rules) in
    c.places_sound.ensures ∙ ap (λ x. (every (empty_or_fits m) 0 sessions_max && distinct x) && shares m) c.load.ensures
    ∙ tested m c.if-state-lt-SIZE.false c.if-state-gt127.false c.if-state-gt-SUBSCRIPTIONS.false true (sym c.all_fit.ensures ∙ c.if-all_fit.true) bytes

pub returns : goal.returns
returns c =
    let m = c.args.state.now in
    let bytes = octets-all m (search rules) in
    tested m c.if-state-lt-SIZE.false c.if-state-gt127.false c.if-state-gt-SUBSCRIPTIONS.false false (sym c.all_fit.ensures ∙ c.if-all_fit.false) bytes
