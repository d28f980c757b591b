-- The loop over the records: what was received so far, followed by what is left, is the whole batch.
use mathlib.Core.Path.{◌≡◌, refl, sym, ap, subst, ◌∙◌}
use mathlib.Core.Bool.{Bool, true, false, ◌&&◌}
use mathlib.Core.List.{List, [], ◌∷◌, ◌++◌, append_assoc, append-nil}
use Prim.Native.Nat.{ℕ, suc, ◌+◌, ◌*◌, ◌-◌, ◌/◌, ◌%◌, ◌^◌, ◌≤◌, ◌<◌}
use native.Mathlib.Nat.{sub-zero, zero-add}
use native.Mathlib.Numerals.{add-one}
use native.Mathlib.Omega.{arith}
use borrow.Author.Tests.{lt-ltb, le-ltb, ltb-true, ltb-false}
use lib.Dec.{ltb}
use lib.ListN.{length, take, drop, length-append, length-drop, take-append-drop}
use lib.Seq.{length-take-le, take_all, drop-length, take-append-add, drop-append-add}
use borrow.Rule.Slice.PartMut.{put_mid, Post-is}
use Rattle.answers.proofs.Words.{length_back}
use Rattle.answers.specs.Word.{word_of}
use Rattle.answers.specs.declared.Answer.{Answer}
use Rattle.batch.proofs.Fits.{received-fits}
use Rattle.batch.specs.Layout.{result_size, arrival_at}
use Rattle.batch.specs.Many.{Batch, handed, rest, full, ended, followed, batch, words, told, returned}
use Rattle.std.specs.declared.result.Result.TheVariants.{Ok}
use Rattle.batch.specs.inside.Turn.{Received}
use Rattle.bits.proofs.Little.{length-le_bytes}
use Rattle.bits.proofs.Splice.{splice-next}
use Rattle.bits.specs.Little.{le_bytes}
use Rattle.bits.specs.Part.{span, splice}
use Rattle.bits.specs.Tabulate.{tabulate}
use Rattle.receiver.specs.Receive.{Result, received}
use Rattle.rules.specs.Frame.{Arrival}
use Rattle.rules.specs.Limits.{payload_max}
use Rattle.rules.specs.Tests.{pick}
use Rattle.state.specs.Sound.{sound_state}

-- ── what was answered, and what follows ──

-- the answers so far and the front of the output buffer, with the batch of what is left
abbrev pub resumed : List Answer → List ℕ → Batch → Batch
resumed done front b = record { answers = done ++ b.answers; state = b.state; out = front ++ b.out }

resumed-next : (done : List Answer) (front : List ℕ) (r : Result) (b : Batch)
    → resumed done front (followed r b) ≡ resumed (done ++ (r.answer ∷ [])) (front ++ take (handed r) r.out) b
resumed-next done front r b =
    ap (λ (x : List Answer). record { answers = x; state = b.state; out = front ++ (take (handed r) r.out ++ b.out) })
    (sym (append_assoc done (r.answer ∷ []) b.answers))
    ∙ ap (λ (x : List ℕ). record { answers = (done ++ (r.answer ∷ [])) ++ b.answers; state = b.state; out = x })
    (sym (append_assoc front (take (handed r) r.out) b.out))

-- two tests that agree
ltb-same : (a b d e : ℕ) → (a < b → d < e) → (d < e → a < b) → ltb a b ≡ ltb d e
ltb-same a b d e f g = go (ltb a b) refl where
  go : (x : Bool) → ltb a b ≡ x → ltb a b ≡ ltb d e
  go true h = h ∙ sym (lt-ltb d e (f (ltb-true a b h)))
  go false h = h ∙ sym (le-ltb d e (not-lt (λ k. omega (arith, g k, ltb-false a b h))))
    where
      not-lt : (d < e → ⊥) → e ≤ d
      not-lt k = omega (arith, k)

-- a reception written after the front of the buffer: what the front is then, and what is left
module _ (out part : List ℕ) (past n : ℕ) (inside : past ≤ length out) where
  front_length : length (take past out) ≡ past
  front_length = length-take-le past out inside

  pub front-next : take (past + n) (take past out ++ part) ≡ take past out ++ take n part
  front-next = ap (λ (k : ℕ). take (k + n) (take past out ++ part)) (sym front_length) ∙ take-append-add (take past out) part n

  pub rest-next : drop (past + n) (take past out ++ part) ≡ drop n part
  rest-next = ap (λ (k : ℕ). drop (k + n) (take past out ++ part)) (sym front_length) ∙ drop-append-add (take past out) part n

-- the part `&mut out[past..]`, lent and back
pub part-lent : (out : List ℕ) (past : ℕ) → past ≤ length out → span out past (length out - past) ≡ drop past out
part-lent out past h = take_all (length out - past) (drop past out) (omega (arith, length-drop past out))

pub part-back : (out part : List ℕ) (past : ℕ) → past ≤ length out → put_mid past (length out - past) out part ≡ take past out ++ part
part-back out part past h =
    ap (λ (x : List ℕ). take past out ++ (part ++ x)) (Post-is past (length out) out h ∙ drop-length out)
    ∙ ap (λ (x : List ℕ). take past out ++ x) (append-nil part)

-- ── the words ──

pub words_more : (done : List Answer) (a : Answer) → words (done ++ (a ∷ [])) ≡ words done ++ le_bytes result_size (word_of a)
unfolding words
words_more [] a = append-nil (le_bytes result_size (word_of a))
words_more (x ∷ xs) a = ap (λ (l : List ℕ). le_bytes result_size (word_of x) ++ l) (words_more xs a) ∙ sym (append_assoc (le_bytes result_size (word_of x)) (words xs) (le_bytes result_size (word_of a)))

pub length-words : (done : List Answer) → length (words done) ≡ length done * result_size
unfolding words
length-words [] = refl
length-words (x ∷ xs) = omega (arith, length-append (le_bytes result_size (word_of x)) (words xs), length-le_bytes result_size (word_of x), length-words xs)

-- the word of record i, after those before it
pub words-stored : (results₀ results : List ℕ) (done : List Answer) (a : Answer) (i : ℕ) → length done ≡ i → i * result_size + result_size ≤ length results₀
    → results ≡ splice results₀ 0 (words done)
    → splice results (i * result_size) (le_bytes result_size (word_of a)) ≡ splice results₀ 0 (words (done ++ (a ∷ [])))
words-stored results₀ results done a i c room e =
    splice-next results₀ results (splice results (i * result_size) (le_bytes result_size (word_of a))) 0 (i * result_size) (words done) (le_bytes result_size (word_of a)) (omega arith)
    (length-words done ∙ ap (λ (k : ℕ). k * result_size) c) e (ap (λ (k : ℕ). splice results k (le_bytes result_size (word_of a))) (sym (zero-add (i * result_size))))
    ∙ ap (λ (x : List ℕ). splice results₀ 0 x) (sym (words_more done a))

-- ── the end ──

-- nothing is left
finished : (whole : Batch) (results₀ m results out : List ℕ) (done : List Answer) (i past : ℕ) → length done ≡ i → results ≡ splice results₀ 0 (words done)
    → resumed done (take past out) (ended m (drop past out)) ≡ whole → returned (Ok i) m results out ≡ told whole results₀
finished whole results₀ m results out done i past c s e =
    ap (λ (k : ℕ). returned (Ok k) m results out) (sym c ∙ ap length (sym (append-nil done)))
    ∙ ap (λ (x : List ℕ). returned (Ok (length (done ++ []))) m x out) (s ∙ ap (λ (l : List Answer). splice results₀ 0 (words l)) (sym (append-nil done)))
    ∙ ap (λ (x : List ℕ). returned (Ok (length (done ++ []))) m (splice results₀ 0 (words (done ++ []))) x) (sym (take-append-drop past out))
    ∙ ap (λ (b : Batch). told b results₀) e

-- ── a turn ──

-- What holds before each turn: the first i records are answered, and `past` bytes of payload are at the front of the output buffer.
pub record Going (records : List ℕ) (n : ℕ) (m₀ results₀ out₀ m results out : List ℕ) (i past : ℕ) : Type 0 where
  pub within : i ≤ n
  pub inside : past ≤ length out
  pub sound : sound_state m ≡ true
  pub length-state : length m ≡ length m₀
  pub length-results : length results ≡ length results₀
  pub length-out : length out ≡ length out₀
  pub done : List Answer
  pub count : length done ≡ i
  pub stored : results ≡ splice results₀ 0 (words done)
  pub same : resumed done (take past out) (batch m (tabulate (arrival_at records) i (n - i)) (drop past out)) ≡ batch m₀ (tabulate (arrival_at records) 0 n) out₀

pub at_first : (records : List ℕ) (n : ℕ) (m results out : List ℕ) → sound_state m ≡ true → Going records n m results out m results out 0 0
unfolding words
at_first records n m results out fine =
    record {
      within = omega arith;
      inside = omega arith;
      sound = fine;
      length-state = refl;
      length-results = refl;
      length-out = refl;
      done = [];
      count = refl;
      stored = refl;
      same = ap (λ (k : ℕ). batch m (tabulate (arrival_at records) 0 k) out) (sub-zero n);
    }

module _ (records : List ℕ) (n : ℕ) (m₀ results₀ out₀ m results out : List ℕ) (i past : ℕ) (g : Going records n m₀ results₀ out₀ m results out i past) where
  -- the records are used up
  pub at_last : i ≡ n → returned (Ok n) m results out ≡ told (batch m₀ (tabulate (arrival_at records) 0 n) out₀) results₀
  unfolding batch tabulate
  at_last e =
      let z : n - i ≡ 0 = omega arith in
      ap (λ (k : ℕ). returned (Ok k) m results out) (sym e)
      ∙ finished (batch m₀ (tabulate (arrival_at records) 0 n) out₀) results₀ m results out g.done i past g.count g.stored (rw z at g.same)

  module _ (less : i < n) where
    abbrev pub r : Result
    r = received m (arrival_at records i) (drop past out)

    abbrev pub left : List Arrival
    left = tabulate (arrival_at records) (i + 1) (n - (i + 1))

    now-batch : batch m (tabulate (arrival_at records) i (n - i)) (drop past out) ≡ followed r (pick (full r) (ended r.state (rest r)) (batch r.state left (rest r)))
    unfolding batch tabulate
    now-batch =
        let e : n - i ≡ suc (n - (i + 1)) = omega arith in
        ap (λ (k : ℕ). batch m (tabulate (arrival_at records) i k) (drop past out)) e
        ∙ ap (λ (j : ℕ). followed r (pick (full r) (ended r.state (rest r)) (batch r.state (tabulate (arrival_at records) j (n - (i + 1))) (rest r)))) (sym (add-one i))

    -- the output buffer after the reception
    abbrev pub written : List ℕ
    written = take past out ++ r.out

    -- the answers after it
    abbrev pub answered : List Answer
    answered = g.done ++ (r.answer ∷ [])

    more : length answered ≡ i + 1
    more = omega (arith, length-append g.done (r.answer ∷ []), g.count)

    after-it : (b : Batch) → batch m (tabulate (arrival_at records) i (n - i)) (drop past out) ≡ followed r b
        → resumed answered (take (past + handed r) written) b ≡ batch m₀ (tabulate (arrival_at records) 0 n) out₀
    after-it b e =
        ap (λ (x : List ℕ). resumed answered x b) (front-next out r.out past (handed r) g.inside)
        ∙ sym (resumed-next g.done (take past out) r b)
        ∙ ap (resumed g.done (take past out)) (sym e) ∙ g.same

    -- the buffer is full
    stops : full r ≡ true → i * result_size + result_size ≤ length results₀
        → returned (Ok (i + 1)) r.state (splice results (i * result_size) (le_bytes result_size (word_of r.answer))) written
        ≡ told (batch m₀ (tabulate (arrival_at records) 0 n) out₀) results₀
    stops f room =
        let e : resumed answered (take (past + handed r) written) (ended r.state (rest r)) ≡ batch m₀ (tabulate (arrival_at records) 0 n) out₀ =
        after-it (ended r.state (rest r)) (now-batch ∙ ap (λ (b : Bool). followed r (pick b (ended r.state (rest r)) (batch r.state left (rest r)))) f) in
        finished (batch m₀ (tabulate (arrival_at records) 0 n) out₀) results₀ r.state (splice results (i * result_size) (le_bytes result_size (word_of r.answer))) written answered
        (i + 1) (past + handed r) more (words-stored results₀ results g.done r.answer i g.count room g.stored)
        (ap (λ (x : List ℕ). resumed answered (take (past + handed r) written) (ended r.state x)) (rest-next out r.out past (handed r) g.inside) ∙ e)

    -- there is room for more
    goes_on : full r ≡ false → i * result_size + result_size ≤ length results₀ → sound_state r.state ≡ true → length r.state ≡ length m₀
        → length (splice results (i * result_size) (le_bytes result_size (word_of r.answer))) ≡ length results₀ → length written ≡ length out₀ → past + handed r ≤ length written
        → Going records n m₀ results₀ out₀ r.state (splice results (i * result_size) (le_bytes result_size (word_of r.answer))) written (i + 1) (past + handed r)
    goes_on f room fine ls lr lo inside =
        record {
          within = omega arith;
          inside = inside;
          sound = fine;
          length-state = ls;
          length-results = lr;
          length-out = lo;
          done = answered;
          count = more;
          stored = words-stored results₀ results g.done r.answer i g.count room g.stored;
          same =
              ap (λ (x : List ℕ). resumed answered (take (past + handed r) written) (batch r.state left x)) (rest-next out r.out past (handed r) g.inside)
              ∙ after-it (batch r.state left (rest r)) (now-batch ∙ ap (λ (b : Bool). followed r (pick b (ended r.state (rest r)) (batch r.state left (rest r)))) f);
        }

    -- what the code has after it: the state m', the part of the output buffer, the words and the whole buffer
    module _ (m' part part' results' out' : List ℕ) (w : ℕ) (lent : part ≡ drop past out) (one : Received m (arrival_at records i) part w m' part')
        (stored : results' ≡ splice results (i * result_size) (le_bytes result_size w)) (joined : out' ≡ take past out ++ part')
        (room : i * result_size + result_size ≤ length results₀) (as_long : length part' ≡ length part) where
      one' : Received m (arrival_at records i) (drop past out) w m' part'
      one' = subst (λ (x : List ℕ). Received m (arrival_at records i) x w m' part') lent one

      abbrev pub len : ℕ
      len = w / 2 ^ 8 % 2 ^ 10

      len-handed : len ≡ handed r
      len-handed = ap (λ (x : ℕ). x / 2 ^ 8 % 2 ^ 10) one'.word ∙ length_back r.answer (received-fits m (arrival_at records i) (drop past out))

      out_written : out' ≡ written
      out_written = joined ∙ ap (λ (x : List ℕ). take past out ++ x) one'.out

      words-written : results' ≡ splice results (i * result_size) (le_bytes result_size (word_of r.answer))
      words-written = stored ∙ ap (λ (x : ℕ). splice results (i * result_size) (le_bytes result_size x)) one'.word

      length-joined : length out' ≡ past + length part'
      length-joined = ap length joined ∙ length-append (take past out) part' ∙ ap (λ (k : ℕ). k + length part') (front_length out part' past 0 g.inside)

      length-kept : length out' ≡ length out
      length-kept = omega (arith, length-joined, as_long, ap length lent, length-drop past out, g.inside)

      full-same : (ltb 0 len && ltb (length out') (past + len + payload_max)) ≡ full r
      full-same =
          let d : length (rest r) ≡ length r.out - handed r = length-drop (handed r) r.out in
          let e : length part' ≡ length r.out = ap length one'.out in
          ap (λ (k : ℕ). ltb 0 k && ltb (length out') (past + k + payload_max)) len-handed
          ∙ ap (λ (b : Bool). ltb 0 (handed r) && b)
          (ltb-same (length out') (past + handed r + payload_max) (length (rest r)) payload_max (λ h. omega (arith, length-joined)) (λ h. omega (arith, length-joined)))

      -- a payload of k bytes that does not fill the buffer lies in it
      within-out : (k room' : ℕ) → (ltb 0 k && ltb room' (past + k + payload_max)) ≡ false → past ≤ room' → past + k ≤ room'
      within-out k room' f h = go (ltb 0 k) refl f
        where
          go : (b : Bool) → ltb 0 k ≡ b → (b && ltb room' (past + k + payload_max)) ≡ false → past + k ≤ room'
          go false e x = omega (arith, ltb-false 0 k e)
          go true e x = omega (arith, ltb-false room' (past + k + payload_max) x)

      pub stopped : (ltb 0 len && ltb (length out') (past + len + payload_max)) ≡ true
          → returned (Ok (i + 1)) m' results' out' ≡ told (batch m₀ (tabulate (arrival_at records) 0 n) out₀) results₀
      stopped f =
          ap (λ (x : List ℕ). returned (Ok (i + 1)) x results' out') one'.state ∙ ap (λ (x : List ℕ). returned (Ok (i + 1)) r.state x out') words-written
          ∙ ap (λ (x : List ℕ). returned (Ok (i + 1)) r.state (splice results (i * result_size) (le_bytes result_size (word_of r.answer))) x) out_written
          ∙ stops (sym full-same ∙ f) room

      pub going : (ltb 0 len && ltb (length out') (past + len + payload_max)) ≡ false → length m' ≡ length m → length results' ≡ length results
          → Going records n m₀ results₀ out₀ m' results' out' (i + 1) (past + len)
      going f lm lr =
          let inside : past + len ≤ length out' = within-out len (length out') f (omega (arith, length-kept, g.inside)) in
          let x = goes_on (sym full-same ∙ f) room (ap sound_state (sym one'.state) ∙ one'.sound) (ap length (sym one'.state) ∙ lm ∙ g.length-state) (ap length (sym words-written) ∙ lr ∙ g.length-results)
          (ap length (sym out_written) ∙ length-kept ∙ g.length-out) (omega (arith, len-handed, ap length out_written)) in
          subst (λ (k : ℕ). Going records n m₀ results₀ out₀ m' results' out' (i + 1) (past + k)) (sym len-handed)
          (subst (λ (y : List ℕ). Going records n m₀ results₀ out₀ m' results' y (i + 1) (past + handed r)) (sym out_written)
          (subst (λ (y : List ℕ). Going records n m₀ results₀ out₀ m' y written (i + 1) (past + handed r)) (sym words-written)
          (subst (λ (y : List ℕ). Going records n m₀ results₀ out₀ y (splice results (i * result_size) (le_bytes result_size (word_of r.answer))) written (i + 1) (past + handed r))
          (sym one'.state) x)))
