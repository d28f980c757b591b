-- The example: its tables are in lent bytes, and its premises come over from those of the rules.
use mathlib.Core.Path.{◌≡◌, refl, sym, ap, ap₂, subst, ◌∙◌}
use mathlib.Core.Bool.{Bool, true, ◌&&◌}
use mathlib.Core.List.{List, [], ◌∷◌, append-nil, map}
use Prim.Native.Nat.{ℕ, ◌^◌}
use native.Mathlib.Omega.{arith}
use borrow.Author.Tests.{ltb-true}
use lib.Dec.{ltb}
use lib.ListN.{replicate, length-replicate}
use Rattle.std.specs.declared.result.Result.TheVariants.{Ok}
use Rattle.bits.specs.Little.{le}
use Rattle.bits.specs.Order.{Octets}
use Rattle.bits.specs.Tabulate.{tabulate}
use Rattle.guarantees.specs.Condition3.{Lent, lent_bytes}
use Rattle.guarantees.specs.Example.{records, call_of, lent_of, lent_spacious, lent_crowded, LentExample}
use Rattle.guarantees.specs.Received.{Typed}
use Rattle.guarantees.specs.Run.{receptions, AllTyped}
use Rattle.guarantees.specs.Written.{AllWritable, Stands}
use Rattle.guarantees.proofs.Condition3.{view, lent-theorem}
use Rattle.guarantees.proofs.FromSetup.{octets-zeros, octets-state}
use Rattle.guarantees.proofs.Received.{table-law}
use Rattle.rules.proofs.Examples.{example}
use Rattle.rules.proofs.Lift.{view_of, frames-are, while-back, premises-back}
use Rattle.rules.specs.Blocks.{used, times, lowest, free_block, cleared, asks}
use Rattle.rules.specs.Check.{Reception, parsed, frame_check, check}
use Rattle.rules.specs.Condition3.{of_stream, Receiver, frames, Premises, While, Transfer, rules_table}
use Rattle.rules.specs.Example.{setup, stream, payload, start, crowd, spacious, crowded}
use Rattle.rules.specs.Frame.{Frame, same_stream, stream_of}
use Rattle.rules.specs.Reception.{step_block, step_ask, step_at, step_new, step_start, step_seek, step_anonymous, step_checked, step, after}
use Rattle.rules.specs.Session.{restarts, over, closing, take_end, take_long, takes, proceed_if, proceed, met, restarted, react}
use Rattle.rules.specs.Setup.{subscribed, acceptable}
use Rattle.rules.specs.Sound.{stream_fits, session_fits, sound}
use Rattle.rules.specs.Table.{empty, held, Places, seek, place_for}
use Rattle.setup.proofs.Fresh.{fresh}
use Rattle.setup.specs.Laws.{Fresh}
use Rattle.setup.specs.Setup.{record_at, given, accepted, state_of, after_setup}
use Rattle.state.specs.Layout.{size}
use Rattle.state.proofs.Bools.{and_left, and_right}
use Rattle.state.specs.Place.{written}

-- ── ranges, by tests that compute ──

bytes_test : List ℕ → Bool
bytes_test [] = true
bytes_test (b ∷ bs) = ltb b 256 && bytes_test bs

tested-bytes : (bs : List ℕ) → bytes_test bs ≡ true → Octets bs
unfolding bytes_test
tested-bytes [] e = tt
tested-bytes (b ∷ bs) e = (ltb-true b 256 (and_left (ltb b 256) (bytes_test bs) e), tested-bytes bs (and_right (ltb b 256) (bytes_test bs) e))

in_range : ℕ → List ℕ → Bool
in_range time bytes = ltb time (2 ^ 64) && bytes_test bytes

frame_test : Frame → Bool
frame_test f = in_range f.time f.bytes

tested-frame : (f : Frame) → frame_test f ≡ true → Typed f
unfolding frame_test in_range
tested-frame f e =
    record { bytes = tested-bytes f.bytes (and_right (ltb f.time (2 ^ 64)) (bytes_test f.bytes) e); time = ltb-true f.time (2 ^ 64) (and_left (ltb f.time (2 ^ 64)) (bytes_test f.bytes) e) }

list_test : List Reception → Bool
list_test [] = true
list_test (r ∷ rs) = frame_test r.arrival.frame && list_test rs

tested-list : (rs : List Reception) → list_test rs ≡ true → AllTyped (map call_of rs)
unfolding list_test
tested-list [] e = tt
tested-list (r ∷ rs) e = (tested-frame r.arrival.frame (and_left (frame_test r.arrival.frame) (list_test rs) e), tested-list rs (and_right (frame_test r.arrival.frame) (list_test rs) e))

table_test : Places → Bool
table_test [] = true
table_test (empty ∷ ps) = table_test ps
table_test (held d s bs ∷ ps) = in_range s.since s.gathered && table_test ps

tested-table : (ps : Places) → table_test ps ≡ true → AllWritable ps
unfolding table_test in_range
tested-table [] e = tt
tested-table (empty ∷ ps) e = (tt, tested-table ps e)
tested-table (held d s bs ∷ ps) e =
    let a = and_left (in_range s.since s.gathered) (table_test ps) e in (
      record { since = ltb-true s.since (2 ^ 64) (and_left (ltb s.since (2 ^ 64)) (bytes_test s.gathered) a); bytes = tested-bytes s.gathered (and_right (ltb s.since (2 ^ 64)) (bytes_test s.gathered) a) },
      tested-table ps (and_right (in_range s.since s.gathered) (table_test ps) e),
    )

-- ── a receiver of the rules, lent ──

receptions-back : (rs : List Reception) → receptions (map call_of rs) ≡ rs
receptions-back [] = refl
receptions-back (r ∷ rs) =
    let n = length-replicate {A = ℕ} r.room 0 in
    ap₂ (λ (k : ℕ) (l : List Reception). record { arrival = r.arrival; room = k } ∷ l) n (receptions-back rs)

record Lendable (m : List ℕ) (x : Receiver (rules_table setup)) : Type 0 where
  state : Lent setup m
  table : sound x.state ≡ true
  writable : AllWritable x.state
  typed : AllTyped (call_of x.start ∷ map call_of x.list)

module _ (m : List ℕ) (x : Receiver (rules_table setup)) (h : Lendable m x) where
  stands : Stands m x.state
  stands = table-law m x.state h.state.sound h.state.bytes h.table h.writable

  lends : Lent setup (written m x.state)
  lends = record { setup = stands.setup ∙ h.state.setup; sound = stands.sound; bytes = stands.bytes }

  view-back : view_of setup (lent_bytes setup) (view setup) (lent_of m x) ≡ x
  unfolding view
  view-back =
      let p = stands.places in
      let n = length-replicate {A = ℕ} x.start.room 0 in
      let l = receptions-back x.list in
      λ i. record { state = p i; start = record { arrival = x.start.arrival; room = n i }; list = l i }

  frames-back : frames (lent_bytes setup) stream (lent_of m x) ≡ frames (rules_table setup) stream x
  frames-back = frames-are setup (lent_bytes setup) (of_stream stream) (map call_of x.list) ∙ ap (frames (rules_table setup) stream) view-back

  while-lent : (k : ℕ) → While (rules_table setup) stream k x → While (lent_bytes setup) stream k (lent_of m x)
  while-lent k w =
      while-back setup (lent_bytes setup) (view setup) stream (lent_of m x) lends h.typed k (subst (While (rules_table setup) stream k) (sym view-back) w)

-- ── the state that was set up ──

given_is : given 1 records ≡ setup
unfolding given record_at records le tabulate
given_is = refl

accepted-is : accepted 1 records ≡ true
unfolding accepted acceptable given record_at records le tabulate
accepted-is = refl

records-bytes : bytes_test records ≡ true
unfolding bytes_test records
records-bytes = refl

done-is : (after_setup (replicate size 0) 1 records).answer ≡ Ok tt
unfolding after_setup
done-is = rw accepted-is

begun-state : Fresh setup (state_of setup)
begun-state =
    subst (λ u. Fresh u (state_of u)) given_is
    (subst (Fresh (given 1 records)) (append-nil (state_of (given 1 records))) (fresh 1 records [] accepted-is (tested-bytes records records-bytes)))

-- ── both receivers ──

start_test : frame_test start.frame ≡ true
unfolding frame_test in_range bytes_test
start_test = refl

spacious-tests : (sound spacious.state ≡ true) × ((table_test spacious.state ≡ true) × (list_test spacious.list ≡ true))
unfolding sound stream_fits session_fits after step step_checked step_anonymous step_seek step_start step_new used times lowest free_block cleared asks step_block step_ask step_at seek place_for check frame_check parsed stream_of same_stream subscribed react met restarted restarts proceed proceed_if over takes take_long take_end closing table_test list_test frame_test in_range bytes_test
spacious-tests = (refl, (refl, refl))

crowded-tests : (sound crowded.state ≡ true) × ((table_test crowded.state ≡ true) × (list_test crowded.list ≡ true))
unfolding crowd used times sound stream_fits session_fits same_stream table_test list_test frame_test in_range bytes_test
crowded-tests = (refl, (refl, refl))

lendable : (x : Receiver (rules_table setup)) → x.start.arrival ≡ start → (sound x.state ≡ true) × ((table_test x.state ≡ true) × (list_test x.list ≡ true))
    → Lendable (state_of setup) x
lendable x e t =
    record {
      state = record { setup = begun-state.setup; sound = begun-state.sound; bytes = octets-state setup (omega arith) (omega arith) };
      table = t.0;
      writable = tested-table x.state t.1.0;
      typed = (subst (λ a. Typed a.frame) (sym e) (tested-frame start.frame start_test), tested-list x.list t.1.1);
    }

module _ (m : List ℕ) (x y : Receiver (rules_table setup)) (a : Lendable m x) (b : Lendable m y) where
  lent-premises : Premises (rules_table setup) stream x y → Premises (lent_bytes setup) stream (lent_of m x) (lent_of m y)
  lent-premises p =
      premises-back setup (lent_bytes setup) (view setup) stream (lent_of m x) (lent_of m y) (lends m x a, lends m y b) (a.typed, b.typed)
      (subst (λ z. Premises (rules_table setup) stream z (view_of setup (lent_bytes setup) (view setup) (lent_of m y))) (sym (view-back m x a))
      (subst (Premises (rules_table setup) stream x) (sym (view-back m y b)) p))

pub lent-example : LentExample
lent-example =
    let m = state_of setup in
    let a = lendable spacious refl spacious-tests in
    let b = lendable crowded refl crowded-tests in
    let premises = lent-premises m spacious crowded a b example.premises in
    record {
      premises = premises;
      whiles = (while-lent m spacious a 8 example.whiles.0, while-lent m crowded b 8 example.whiles.1);
      transfer = subst (λ fs. Transfer setup stream start fs 16 5 payload) (sym (frames-back m spacious a)) example.transfer;
      claim = lent-theorem setup stream lent_spacious lent_crowded premises;
      set_up = (record { bytes = octets-zeros size; records = tested-bytes records records-bytes; done = done-is }, given_is);
    }
