-- `spread` meets its contract: two products are as many places up as both powers together.
use mathlib.Core.Path.{◌≡◌, sym, ap, ◌∙◌}
use mathlib.Core.List.{◌∷◌}
use Prim.Native.Nat.{ℕ, ◌+◌, ◌*◌, ◌/◌, ◌%◌, ◌<◌}
use native.Mathlib.Omega.{arith}
use borrow.Author.Rules.{rules}
use lib.ListN.{replicate}
use Rattle.checksum.specs.Crc.{shifts, crc_over}
use Rattle.checksum.specs.Crc16.{ccitt}
use Rattle.patch.proofs.Powers.{shifts-add, alone, product-moves}
use Rattle.patch.specs.inside.Powers.{product_of}
use Rattle.patch.proofs.spread.Goals as goal

both : (d n a r b s : ℕ) → d < 256 → r < 65536 → a ≡ shifts ccitt (16 + 8 * (n % 32)) 1 → b ≡ shifts ccitt (0 + 256 * (n / 32)) 1
    → r ≡ product_of 8 d a → s ≡ product_of 16 r b → s ≡ crc_over ccitt 0 (d ∷ replicate n 0)
both d n a r b s hd hr ea eb er es =
    let near = 16 + 8 * (n % 32) in
    let far = 0 + 256 * (n / 32) in
    let places : near + far ≡ 16 + 8 * n = omega arith in
    es ∙ product-moves far 16 r b (omega arith) hr eb
    ∙ ap (shifts ccitt far) (er ∙ product-moves near 8 d a (omega arith) hd ea)
    ∙ sym (shifts-add near far d) ∙ ap (λ (m : ℕ). shifts ccitt m d) places ∙ sym (alone d n hd)

pub returns : goal.returns
returns c =
    let a = c.args in
    both a.d a.n _ c.product-r.result _ c.product.result (search rules) (search rules)
    (c.near-a.ensures.entry (a.n % 32) (omega arith)) (c.far-b.ensures.entry (a.n / 32) (omega arith)) c.product-r.ensures c.product.ensures
