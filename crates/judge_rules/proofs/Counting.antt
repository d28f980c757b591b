-- The streams that are counted, and the checks.
use mathlib.Core.Path.{◌≡◌, refl, sym, ap, ◌∙◌}
use mathlib.Core.Bool.{Bool, true, false, not, ◌&&◌, ◌||◌, or-true}
use mathlib.Core.List.{List, [], ◌∷◌}
use Prim.Native.Nat.{◌+◌}
use native.Mathlib.Omega.{arith}
use Rattle.rules.specs.Frame.{Frame, Stream, same_stream, stream_of, is_anonymous}
use Rattle.rules.specs.Sent.{flag}
use Rattle.rules.specs.Tests.{pick}
use Rattle.rules.proofs.Table.{same_refl, same-eq}
use Rattle.judge_rules.specs.Good.{add, streams_in}
use Rattle.judge_rules.specs.Laws.{count, appears, Readings}
use Rattle.judge_rules.proofs.Views.{check-is}

count-other : (d e : Stream) (ds : List Stream) → same_stream e d ≡ false → count d (add e ds) ≡ count d ds
unfolding count add
count-other d e [] n = rw n
count-other d e (x ∷ ds) n = go (same_stream x e) (count-other d e ds n)
  where
    go : (b : Bool) → count d (add e ds) ≡ count d ds → count d (pick b (x ∷ ds) (x ∷ add e ds)) ≡ flag (same_stream x d) + count d ds
    go true h = refl
    go false h = ap (λ k. flag (same_stream x d) + k) h

count-own : (d : Stream) (ds : List Stream) (b : Bool) → count d ds ≡ flag b → count d (add d ds) ≡ 1
unfolding count add
count-own d [] b h = rw (same_refl d)
count-own d (x ∷ ds) b h = go (same_stream x d) refl h (λ b h. count-own d ds b h)
  where
    go : (y : Bool) → same_stream x d ≡ y → flag y + count d ds ≡ flag b → ((b : Bool) → count d ds ≡ flag b → count d (add d ds) ≡ 1)
        → count d (pick y (x ∷ ds) (x ∷ add d ds)) ≡ 1
    go true q h ih = ap (λ y. flag y + count d ds) q ∙ h ∙ top b h
      where
        top : (b : Bool) → 1 + count d ds ≡ flag b → flag b ≡ 1
        top true k = refl
        top false k = absurd (omega arith)
    go false q h ih = ap (λ y. flag y + count d (add d ds)) q ∙ (let k = ih b (omega arith) in omega arith)

count-in : (l : List Frame) (d : Stream) (ds : List Stream) (b : Bool) → count d ds ≡ flag b → count d (streams_in ds l) ≡ flag (b || appears d l)
unfolding streams_in appears
count-in [] d ds b h = h ∙ ap flag (none_more b)
  where
    none_more : (b : Bool) → b ≡ (b || false)
    none_more true = refl
    none_more false = refl
count-in (f ∷ l) d ds b h = go (is_anonymous f.id) (same_stream (stream_of f.id) d) refl (λ ds b h. count-in l d ds b h)
  where
    regroup : (a b c : Bool) → ((a || b) || c) ≡ (a || (b || c))
    regroup true b c = refl
    regroup false b c = refl

    go : (a s : Bool) → same_stream (stream_of f.id) d ≡ s → ((ds : List Stream) (b : Bool) → count d ds ≡ flag b → count d (streams_in ds l) ≡ flag (b || appears d l))
        → count d (streams_in (pick a ds (add (stream_of f.id) ds)) l) ≡ flag (b || ((not a && s) || appears d l))
    go true s q ih = ih ds b h
    go false false q ih = ih (add (stream_of f.id) ds) b (count-other d (stream_of f.id) ds q ∙ h)
    go false true q ih =
        let e : stream_of f.id ≡ d = same-eq (stream_of f.id) d q in
        ih (add (stream_of f.id) ds) true (ap (λ x. count d (add x ds)) e ∙ count-own d ds b h) ∙ ap flag (sym (or-true b))

pub readings : Readings
unfolding count
readings = record { once = λ l d. count-in l d [] false refl; check = check-is }
