-- What is recovered from a haltset depends only on the statement's own halts: so finitely many statements are recovered (004, section 4.2, corollary).
use mathlib.Core.Path.{◌≡◌, refl, sym, ◌∙◌, ap}
use mathlib.Core.Bool.{Bool, true, false, ◌||◌, or-true, or-false}
use mathlib.Core.List.{List, [], ◌∷◌, ◌++◌, map}
use mathlib.Core.Logic.{inl, inr, ⊎_elim}
use Prim.Native.Nat.{ℕ, zero, suc, ◌+◌, ◌<◌, ◌≤◌}
use native.Mathlib.Omega.{arith}
use native.Mathlib.Decide.{ℕ_discrete}
use borrow.Author.Tests.{eq-eqb, ne_eqb}
use Rattle.number.specs.declared.HaltNo.{HaltNo}
use Rattle.number.specs.Counts.{halt_no, of_halt}
use Rattle.sheet.specs.declared.Leaf.TheVariants.{Nothing, Halt, Emit, Exit}
use Rattle.sheet.specs.declared.Unary.TheVariants.{Loop, Watching, Trap, Signal}
use Rattle.sheet.specs.declared.Binary.TheVariants.{Sequence, Present, Parallel}
use Rattle.sheet.specs.Stmt.{Stmt, leaf, one, two, halt_count}
use Rattle.sheet.proofs.Notions.{Numbered, in_halts, halt_within}
use Rattle.sets.specs.Codes.{empty, join}
use Rattle.rules.specs.Rules.{Halts, only_halt, active}
use Rattle.rules.proofs.Again.{On, on_left, on_right}
use Rattle.berry.specs.Haltsets.{recovering, recovered}
use Rattle.berry.specs.Modules.{body, haltsets, OneOf, FromHaltset}
use Rattle.berry.proofs.Faithfulness.{body_numbered}

active_alike : (H G : Halts) (t : Stmt) → On t H G → active H t ≡ active G t
unfolding active in_halts
active_alike H G (leaf Nothing) f = refl
active_alike H G (leaf (Halt k)) f = f k (eq-eqb (of_halt k) (of_halt k) refl)
active_alike H G (leaf (Emit s)) f = refl
active_alike H G (leaf (Exit k)) f = refl
active_alike H G (one u p) f = active_alike H G p f
active_alike H G (two b p q) f = rw (active_alike H G p (on_left b p q H G f), active_alike H G q (on_right b p q H G f))

recovering_alike : (H G : Halts) (t : Stmt) → On t H G → recovering H t ≡ recovering G t
unfolding recovering in_halts
recovering_alike H G (leaf l) f = refl
recovering_alike H G (one Loop p) f = rw (recovering_alike H G p f)
recovering_alike H G (one (Watching s) p) f = rw (recovering_alike H G p f)
recovering_alike H G (one Trap p) f = rw (recovering_alike H G p f)
recovering_alike H G (one (Signal s) p) f = rw (recovering_alike H G p f)
recovering_alike H G (two Sequence p q) f =
    let fp : On p H G = on_left Sequence p q H G f in
    let fq : On q H G = on_right Sequence p q H G f in
    rw (active_alike H G p fp, recovering_alike H G p fp, recovering_alike H G q fq)
recovering_alike H G (two (Present s) p q) f =
    let fp : On p H G = on_left (Present s) p q H G f in
    let fq : On q H G = on_right (Present s) p q H G f in
    rw (active_alike H G p fp, recovering_alike H G p fp, recovering_alike H G q fq)
recovering_alike H G (two Parallel p q) f =
    let fp : On p H G = on_left Parallel p q H G f in
    let fq : On q H G = on_right Parallel p q H G f in
    rw (active_alike H G p fp, active_alike H G q fq, recovering_alike H G p fp, recovering_alike H G q fq)

recovered_alike : (H G : Halts) (t : Stmt) → On t H G → recovered H t ≡ recovered G t
unfolding recovered
recovered_alike H G t f = rw (active_alike H G t f, recovering_alike H G t f)

-- what is among a list
module _ {A : Type 0} where
  among_first : (x : A) (xs ys : List A) → OneOf x xs → OneOf x (xs ++ ys)
  unfolding OneOf
  among_first x [] ys i = absurd i
  among_first x (y ∷ xs) ys i = ⊎_elim (λ e. inl e) (λ r. inr (among_first x xs ys r)) i

  among_second : (x : A) (xs ys : List A) → OneOf x ys → OneOf x (xs ++ ys)
  unfolding OneOf
  among_second x [] ys i = i
  among_second x (y ∷ xs) ys i = inr (among_second x xs ys i)

among_map : {A B : Type 0} (f : A → B) (x : A) (xs : List A) → OneOf x xs → OneOf (f x) (map f xs)
unfolding OneOf
among_map f x [] i = absurd i
among_map f x (y ∷ xs) i = ⊎_elim (λ e. inl (ap f e)) (λ r. inr (among_map f x xs r)) i

-- every haltset has the halts below n of a haltset in the list, which has no others
record Listed (n : ℕ) (H : Halts) : Type 0 where
  haltset : Halts
  among : OneOf haltset (haltsets n)
  alike : (h : HaltNo) → of_halt h < n → H h ≡ haltset h
  beyond : (h : HaltNo) → n ≤ of_halt h → haltset h ≡ false

listed : (n : ℕ) (H : Halts) → Listed n H
unfolding haltsets OneOf
listed zero H = record { haltset = empty; among = inl refl; alike = λ h l. absurd (omega arith); beyond = λ h l. refl }
listed (suc n) H = more (H (halt_no n)) refl (listed n H)
  where
    more : (b : Bool) → H (halt_no n) ≡ b → Listed n H → Listed (suc n) H
    more true on r =
        record {
          haltset = join r.haltset (only_halt (halt_no n));
          among =
              among_second (join r.haltset (only_halt (halt_no n))) (haltsets n) (map (λ G. join G (only_halt (halt_no n))) (haltsets n))
              (among_map (λ G. join G (only_halt (halt_no n))) r.haltset (haltsets n) r.among);
          alike = λ h l. new h l (ℕ_discrete (of_halt h) n);
          beyond = λ h l. rw (r.beyond h (omega arith), ne_eqb (of_halt h) n (λ e. omega arith));
        }
      where
        new : (h : HaltNo) → of_halt h < suc n → Dec (of_halt h ≡ n) → H h ≡ (r.haltset h || only_halt (halt_no n) h)
        new h l (yes e) =
            let here : h ≡ halt_no n = ap halt_no e in
            ap H here ∙ on ∙ sym (or-true (r.haltset h)) ∙ ap (λ (b : Bool). r.haltset h || b) (sym (eq-eqb (of_halt h) n e))
        new h l (no e) = r.alike h (omega arith) ∙ sym (or-false (r.haltset h)) ∙ ap (λ (b : Bool). r.haltset h || b) (sym (ne_eqb (of_halt h) n e))
    more false off r =
        record {
          haltset = r.haltset;
          among = among_first r.haltset (haltsets n) (map (λ G. join G (only_halt (halt_no n))) (haltsets n)) r.among;
          alike = λ h l. old h l (ℕ_discrete (of_halt h) n);
          beyond = λ h l. r.beyond h (omega arith);
        }
      where
        old : (h : HaltNo) → of_halt h < suc n → Dec (of_halt h ≡ n) → H h ≡ r.haltset h
        old h l (yes e) = let here : h ≡ halt_no n = ap halt_no e in ap H here ∙ off ∙ sym (r.beyond h (omega arith))
        old h l (no e) = r.alike h (omega arith)

pub from_haltset : (t : Stmt) → Numbered (halt_no 0) t → (H : Halts) → FromHaltset t (recovered H (body t))
unfolding halt_count
from_haltset t n H =
    rw (recovered_alike H r.haltset (body t) (λ h e. r.alike h (omega (arith, (halt_within (halt_no 0) (body t) (body_numbered t n) h e).1))))
    (among_map (λ G. recovered G (body t)) r.haltset (haltsets (1 + halt_count t)) r.among)
  where
    r : Listed (1 + halt_count t) H
    r = listed (1 + halt_count t) H
