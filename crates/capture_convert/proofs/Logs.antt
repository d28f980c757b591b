-- A whole log: what reads is the lines of what was read, and the lines of frames read as these frames.
use mathlib.Core.Path.{◌≡◌, refl, sym, ap, ap₂, ◌∙◌}
use mathlib.Core.Bool.{Bool, true, false}
use mathlib.Core.List.{List, [], ◌∷◌, ◌++◌, append_assoc, append-nil}
use mathlib.Core.Option.{Option, none, some}
use Prim.Native.Nat.{ℕ, zero, suc, ◌+◌, ◌/◌, ◌%◌, ◌^◌, ◌≤◌, ◌<◌}
use native.Mathlib.Omega.{arith}
use borrow.Author.Tests.{eqb-false, ne_eqb}
use lib.Dec.{ltb, eqb}
use lib.ListN.{length, length-append}
use Rattle.rules.specs.Condition3.{All}
use Rattle.rules.specs.Frame.{Frame}
use Rattle.rules.specs.Tests.{pick}
use Rattle.digits.specs.Digits.{glyph, digits, count_of, decimal}
use Rattle.log_line.specs.Line.{time_text, data_text, line_of, Carried}
use Rattle.log_line.specs.Lines.{Cut, ahead, cut, last_line, lines_of}
use Rattle.log_line.specs.Reading.{said}
use Rattle.log_line.proofs.Cutting.{cut_of, after, cut-append, Plain, plain-rest, onto, cut-onto}
use Rattle.log_line.proofs.Lines.{read, line-back, line-length}
use Rattle.capture_convert.specs.Laws.{feeds, line_lengths}
use Rattle.capture_convert.specs.Log.{log_of, joined, said_all, frames_of}
use Rattle.capture_convert.proofs.Frames.{prefixed, prefix-nil, joined-prefix, joined-parts}

-- ── lines one after the other ──

pub said-append : (xs ys : List (List ℕ)) (fs : List Frame) → said_all xs ≡ some fs → said_all (xs ++ ys) ≡ prefixed fs (said_all ys)
unfolding said_all
said-append [] ys fs e =
    let q : [] ≡ fs = cc in
    sym (prefix-nil (said_all ys)) ∙ ap (λ (x : List Frame). prefixed x (said_all ys)) q
said-append (l ∷ ls) ys fs e =
    let j = joined-parts (said l) (said_all ls) fs e in
    ap₂ joined j.one (said-append ls ys j.more j.rest) ∙ joined-prefix j.first j.more (said_all ys)
    ∙ ap (λ (x : List Frame). prefixed x (said_all ys)) (sym j.all)

joined-none : (o : Option Frame) → joined o none ≡ none
joined-none none = refl
joined-none (some f) = refl

pub said-none : (xs ys : List (List ℕ)) → said_all xs ≡ none → said_all (xs ++ ys) ≡ none
unfolding said_all
said-none [] ys e = let z : ◌≡◌ {A = ℕ} 0 1 = cc in absurd (omega arith)
said-none (l ∷ ls) ys e = go (said-none ls ys) (said l) (said_all ls) refl refl e where
  go : (said_all ls ≡ none → said_all (ls ++ ys) ≡ none) → (o : Option Frame) (p : Option (List Frame)) → said l ≡ o → said_all ls ≡ p → joined o p ≡ none
      → joined (said l) (said_all (ls ++ ys)) ≡ none
  go ih none p a b r = ap (λ (o : Option Frame). joined o (said_all (ls ++ ys))) a
  go ih (some f) none a b r = ap (λ (o : Option (List Frame)). joined (said l) o) (ih b) ∙ joined-none (said l)
  go ih (some f) (some fs) a b r = let z : ◌≡◌ {A = ℕ} 0 1 = cc in absurd (omega arith)

pub record Front (xs ys : List (List ℕ)) (fs : List Frame) : Type 0 where
  pub before : List Frame
  pub behind : List Frame
  pub said-before : said_all xs ≡ some before
  pub said-behind : said_all ys ≡ some behind
  pub all : fs ≡ before ++ behind

pub said-front : (xs ys : List (List ℕ)) (fs : List Frame) → said_all (xs ++ ys) ≡ some fs → Front xs ys fs
unfolding said_all
said-front [] ys fs e = record { before = []; behind = fs; said-before = refl; said-behind = e; all = refl }
said-front (l ∷ ls) ys fs e =
    let j = joined-parts (said l) (said_all (ls ++ ys)) fs e in
    let r = said-front ls ys j.more j.rest in
    record {
      before = j.first ∷ r.before;
      behind = r.behind;
      said-before = ap₂ joined j.one r.said-before;
      said-behind = r.said-behind;
      all = j.all ∙ ap (λ (x : List Frame). j.first ∷ x) r.all;
    }

-- ── the line feed of a line is its last character, and its only one ──

plain-append : (xs ys : List ℕ) → Plain xs → Plain ys → Plain (xs ++ ys)
plain-append [] ys h k = k
plain-append (x ∷ xs) ys h k = (h.0, plain-append xs ys h.1 k)

glyph-ge : (d : ℕ) → 48 ≤ glyph d
unfolding glyph
glyph-ge d = go (ltb d 10) where
  go : (t : Bool) → 48 ≤ pick t (48 + d) (55 + d)
  go true = omega arith
  go false = omega arith

plain-digits : (b w n : ℕ) → Plain (digits b w n)
unfolding digits
plain-digits b zero n = tt
plain-digits b (suc w) n =
    (ne_eqb (glyph (n / b ^ w % b)) 10 (λ q. omega (arith, glyph-ge (n / b ^ w % b))), plain-digits b w n)

plain-time : (t : ℕ) → Plain (time_text t)
unfolding time_text decimal
plain-time t =
    plain-append (digits 10 (count_of (t / 1000000)) (t / 1000000)) (46 ∷ digits 10 3 (t / 1000 % 1000))
    (plain-digits 10 (count_of (t / 1000000)) (t / 1000000)) (refl, plain-digits 10 3 (t / 1000 % 1000))

plain-data : (bs : List ℕ) → Plain (data_text bs)
unfolding data_text
plain-data [] = tt
plain-data (b ∷ bs) = (refl, plain-append (digits 16 2 b) (data_text bs) (plain-digits 16 2 b) (plain-data bs))

-- a line but for its line feed
abbrev unclosed : Frame → List ℕ
unclosed f = time_text f.time ++ (32 ∷ (digits 16 8 f.id ++ data_text f.bytes))

plain-unclosed : (f : Frame) → Plain (unclosed f)
plain-unclosed f =
    plain-append (time_text f.time) (32 ∷ (digits 16 8 f.id ++ data_text f.bytes)) (plain-time f.time)
    (refl, plain-append (digits 16 8 f.id) (data_text f.bytes) (plain-digits 16 8 f.id) (plain-data f.bytes))

closes : (f : Frame) → line_of f ≡ unclosed f ++ (10 ∷ [])
unfolding line_of
closes f =
    sym (append_assoc (time_text f.time) (32 ∷ (digits 16 8 f.id ++ data_text f.bytes)) (10 ∷ [])
    ∙ ap (λ (x : List ℕ). time_text f.time ++ (32 ∷ x)) (append_assoc (digits 16 8 f.id) (data_text f.bytes) (10 ∷ [])))

never-closed : (u : List ℕ) → Plain (u ++ (10 ∷ [])) → ⊥
never-closed [] h = eqb-false 10 10 h.0 refl
never-closed (x ∷ u) h = never-closed u h.1

-- a line without a line feed is not well formed
plain-said : (l : List ℕ) → Plain l → said l ≡ none
plain-said l h = go (said l) refl where
  go : (o : Option Frame) → said l ≡ o → said l ≡ none
  go none e = e
  go (some f) e =
      let q : l ≡ unclosed f ++ (10 ∷ []) = sym (read l f e).line ∙ closes f in
      absurd (never-closed (unclosed f) (rw q at h))

cut-first : (f : Frame) (t : List ℕ) → cut (line_of f ++ t) ≡ cut_of (line_of f ∷ (cut t).whole) (cut t).rest
unfolding cut onto
cut-first f t =
    ap cut (ap (λ (x : List ℕ). x ++ t) (closes f) ∙ append_assoc (unclosed f) (10 ∷ []) t) ∙ cut-onto (unclosed f) (10 ∷ t) (plain-unclosed f)
    ∙ ap (λ (x : List ℕ). cut_of (x ∷ (cut t).whole) (cut t).rest) (sym (closes f))

pub lines-back : (fs : List Frame) → All Carried fs → frames_of (log_of fs) ≡ some fs
unfolding log_of said_all cut
lines-back [] h = refl
lines-back (f ∷ fs) h =
    ap (λ (c : Cut). said_all (c.whole ++ last_line c.rest)) (cut-first f (log_of fs)) ∙ ap₂ joined (line-back f h.0) (lines-back fs h.1)

-- ── the text of what was read ──

abbrev flat : List (List ℕ) → List ℕ
flat [] = []
flat (l ∷ ls) = l ++ flat ls

cut-flat : (s : List ℕ) → flat (cut s).whole ++ (cut s).rest ≡ s
unfolding cut ahead
cut-flat [] = refl
cut-flat (b ∷ bs) = go (eqb b 10) (cut bs).whole (cut bs).rest (cut-flat bs) where
  go : (t : Bool) (ls : List (List ℕ)) (r : List ℕ) → flat ls ++ r ≡ bs
      → flat (pick t (cut_of ((b ∷ []) ∷ ls) r) (ahead b ls r)).whole ++ (pick t (cut_of ((b ∷ []) ∷ ls) r) (ahead b ls r)).rest ≡ b ∷ bs
  go true ls r e = ap (λ (x : List ℕ). b ∷ x) e
  go false [] r e = ap (λ (x : List ℕ). b ∷ x) e
  go false (l ∷ ls) r e = ap (λ (x : List ℕ). b ∷ x) e

pub record Spoken (ls : List (List ℕ)) (fs : List Frame) : Type 0 where
  pub text : log_of fs ≡ flat ls
  pub carried : All Carried fs
  pub count : length fs ≡ length ls

pub spoken : (ls : List (List ℕ)) (fs : List Frame) → said_all ls ≡ some fs → Spoken ls fs
unfolding said_all log_of
spoken [] fs e = let q : fs ≡ [] = cc in rw q (record { text = refl; carried = tt; count = refl })
spoken (l ∷ ls) fs e =
    let j = joined-parts (said l) (said_all ls) fs e in
    let r = read l j.first j.one in
    let s = spoken ls j.more j.rest in
    rw j.all (record {
      text = ap₂ (λ (x y : List ℕ). x ++ y) r.line s.text;
      carried = (r.carried, s.carried);
      count = ap suc s.count;
    })

-- ── a whole log ──

pub rest-none : (log : List ℕ) (fs : List Frame) → frames_of log ≡ some fs → (cut log).rest ≡ []
unfolding said_all
rest-none log fs e =
    let t = said-front (cut log).whole (last_line (cut log).rest) fs e in
    go (cut log).rest (plain-rest log) t.behind t.said-behind where
      go : (r : List ℕ) → Plain r → (gs : List Frame) → said_all (last_line r) ≡ some gs → r ≡ []
      go [] h gs q = refl
      go (b ∷ bs) h gs q =
          let n : said (b ∷ bs) ≡ none = plain-said (b ∷ bs) h in
          let x : ◌≡◌ {A = Option (List Frame)} none (some gs) = sym (ap (λ (o : Option Frame). joined o (some [])) n) ∙ q in
          let z : ◌≡◌ {A = ℕ} 0 1 = cc in
          absurd (omega arith)

closed-frames : (log : List ℕ) → (cut log).rest ≡ [] → frames_of log ≡ said_all (cut log).whole
closed-frames log h = ap (λ (r : List ℕ). said_all ((cut log).whole ++ last_line r)) h ∙ ap said_all (append-nil (cut log).whole)

pub whole-frames : (log : List ℕ) (o : Option (List Frame)) → said_all (cut log).whole ≡ o → (cut log).rest ≡ [] → frames_of log ≡ o
whole-frames log o e h = closed-frames log h ∙ e

pub broken-frames : (log : List ℕ) → said_all (cut log).whole ≡ none → frames_of log ≡ none
broken-frames log e = said-none (cut log).whole (last_line (cut log).rest) e

pub unclosed-frames : (log : List ℕ) → 0 < length (cut log).rest → frames_of log ≡ none
unclosed-frames log h = go (frames_of log) refl where
  go : (o : Option (List Frame)) → frames_of log ≡ o → frames_of log ≡ none
  go none e = e
  go (some fs) e = absurd (omega (arith, ap length (rest-none log fs e)))

pub record Whole (log : List ℕ) (fs : List Frame) : Type 0 where
  pub said : said_all (cut log).whole ≡ some fs
  pub text : log_of fs ≡ log
  pub carried : All Carried fs
  pub count : length fs ≡ length (cut log).whole

pub whole-log : (log : List ℕ) (fs : List Frame) → frames_of log ≡ some fs → Whole log fs
whole-log log fs e =
    let r = rest-none log fs e in
    let a = sym (closed-frames log r) ∙ e in
    let s = spoken (cut log).whole fs a in
    record {
      said = a;
      text = s.text ∙ sym (append-nil (flat (cut log).whole)) ∙ ap (λ (x : List ℕ). flat (cut log).whole ++ x) (sym r) ∙ cut-flat log;
      carried = s.carried;
      count = s.count;
    }

pub parts : (a b : List ℕ) (fs gs : List Frame) → frames_of a ≡ some fs → frames_of b ≡ some gs → frames_of (a ++ b) ≡ some (fs ++ gs)
parts a b fs gs e f =
    let w = whole-log a fs e in
    let c : cut (a ++ b) ≡ after (cut a).whole (cut b) =
    cut-append a b ∙ ap (λ (r : List ℕ). after (cut a).whole (cut (r ++ b))) (rest-none a fs e) in
    ap (λ (x : Cut). said_all (x.whole ++ last_line x.rest)) c
    ∙ ap said_all (append_assoc (cut a).whole (cut b).whole (last_line (cut b).rest))
    ∙ said-append (cut a).whole (lines_of b) fs w.said ∙ ap (prefixed fs) f

-- ── lengths ──

pub cut-feeds : (s : List ℕ) → length (cut s).whole ≡ feeds s
unfolding cut ahead feeds
cut-feeds [] = refl
cut-feeds (b ∷ bs) = go (eqb b 10) (cut bs).whole (cut bs).rest (cut-feeds bs) where
  go : (t : Bool) (ls : List (List ℕ)) (r : List ℕ) → length ls ≡ feeds bs
      → length (pick t (cut_of ((b ∷ []) ∷ ls) r) (ahead b ls r)).whole ≡ pick t (suc (feeds bs)) (feeds bs)
  go true ls r e = ap suc e
  go false [] r e = e
  go false (l ∷ ls) r e = e

-- a line has at least its line feed
pub cut-few : (s : List ℕ) → length (cut s).whole ≤ length s
unfolding cut ahead
cut-few [] = omega arith
cut-few (b ∷ bs) = go (eqb b 10) (cut bs).whole (cut bs).rest (cut-few bs) where
  go : (t : Bool) (ls : List (List ℕ)) (r : List ℕ) → length ls ≤ length bs
      → length (pick t (cut_of ((b ∷ []) ∷ ls) r) (ahead b ls r)).whole ≤ suc (length bs)
  go true ls r e = omega arith
  go false [] r e = omega arith
  go false (l ∷ ls) r e = omega arith

pub log-length : (fs : List Frame) → length (log_of fs) ≡ line_lengths fs
unfolding log_of line_lengths
log-length [] = refl
log-length (f ∷ fs) = length-append (line_of f) (log_of fs) ∙ omega (arith, line-length f, log-length fs)
