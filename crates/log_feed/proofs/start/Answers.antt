-- `start` meets its contract.
use mathlib.Core.Path.{◌≡◌, refl, sym, ap, subst, ◌∙◌}
use mathlib.Core.Bool.{true}
use mathlib.Core.List.{List, [], ◌∷◌, ◌++◌, append-nil}
use Prim.Native.Nat.{ℕ}
use native.Mathlib.Omega.{arith}
use borrow.Author.Tests.{le-ltb}
use lib.ListN.{length, take, drop}
use lib.Seq.{drop-length}
use Rattle.std.specs.Result.{IsOk}
use Rattle.std.specs.declared.result.Result.TheVariants.{Ok}
use Rattle.bits.specs.Little.{le, le_bytes}
use Rattle.bits.specs.Order.{Octets}
use Rattle.bits.specs.Tabulate.{tabulate}
use Rattle.bits.proofs.Octets.{octets-append, octets-le_bytes}
use Rattle.bits.proofs.Splice.{take-splice}
use Rattle.rules.specs.Setup.{acceptable, subscribed}
use Rattle.setup.specs.Setup as setup
use Rattle.setup.specs.Setup.{record_at, given, accepted, state_of, after_setup}
use Rattle.answers.specs.Setup.{Outcome}
use Rattle.setup.proofs.Fresh.{fresh}
use Rattle.state.specs.Layout.{size}
use Rattle.state.specs.Sound.{sound_state}
use Rattle.types.specs.Types.{signature_of}
use Rattle.log_subscriptions.specs.Subscriptions.{types, record13, records, subscriptions}
use Rattle.log_feed.specs.Log.{heading, begun}
use Rattle.log_feed.proofs.start.Goals as goal

octets : (ts : List (ℕ × ℕ)) → Octets (records ts)
unfolding records record13
octets [] = tt
octets ((k, t) ∷ ts) =
    let x = le_bytes 1 k in
    let y = le_bytes 4 t in
    let z = le_bytes 8 (signature_of k t) in
    octets-append (x ++ (y ++ z)) (records ts)
    (octets-append x (y ++ z) (octets-le_bytes 1 k) (octets-append y z (octets-le_bytes 4 t) (octets-le_bytes 8 (signature_of k t))))
    (octets ts)

-- the setup is one that is accepted
fine : accepted 1 subscriptions ≡ true
unfolding accepted given record_at tabulate acceptable records record13 signature_of subscribed le_bytes le
fine = refl

module _ (m m' r : List ℕ) (o : Outcome) (h : length m ≡ size) (t : r ≡ subscriptions) (e : setup.returned o m' ≡ after_setup m 1 r) where
  after : after_setup m 1 subscriptions ≡ setup.returned (Ok tt) (state_of (given 1 subscriptions) ++ drop size m)
  unfolding after_setup
  after = rw (le-ltb (length m) size (omega arith), fine)

  is-done : o ≡ Ok tt
  is-done = ap (λ (x : setup.Result). x.answer) (e ∙ ap (after_setup m 1) t ∙ after)

  is_state : m' ≡ state_of (given 1 subscriptions) ++ []
  is_state =
      ap (λ (x : setup.Result). x.state) (e ∙ ap (after_setup m 1) t ∙ after)
      ∙ ap (λ (x : List ℕ). state_of (given 1 subscriptions) ++ x) (ap (λ (n : ℕ). drop n m) (sym h) ∙ drop-length m)

  is-begun : m' ≡ begun
  is-begun = is_state ∙ append-nil (state_of (given 1 subscriptions))

  is-sound : sound_state m' ≡ true
  is-sound = ap sound_state is_state ∙ (fresh 1 subscriptions [] fine (octets types)).sound

pub unwrap-requires : goal.unwrap-requires
unwrap-requires c =
    let a = c.args in
    subst IsOk (sym (is-done a.state.now c.setup.new.state _ c.setup.result c.requires.0 c.subscriptions-types.ensures c.setup.ensures)) refl

pub returns : goal.returns
returns c =
    let a = c.args in
    record {
      out_after = (
        ap (λ (x : List ℕ). take 43 x) c.copy_at.ensures ∙ take-splice a.out.now 0 heading c.requires.1 43 refl,
        is-begun a.state.now c.setup.new.state _ c.setup.result c.requires.0 c.subscriptions-types.ensures c.setup.ensures,
      );
      state_after = (
        is-sound a.state.now c.setup.new.state _ c.setup.result c.requires.0 c.subscriptions-types.ensures c.setup.ensures,
        omega arith,
      );
    }
