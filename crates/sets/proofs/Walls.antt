-- A wall for one loop is a wall for every loop around it: the climbs of a part go on in whatever stands around it, each from its X, and one with a
-- wall keeps it and meets no fault any more, whatever its codes are. So what 0 in C is replaced by at a loop changes no answer.
use mathlib.Core.Path.{◌≡◌, refl, ◌∙◌}
use mathlib.Core.Bool.{false, and-false, or-false}
use mathlib.Core.List.{List, [], ◌∷◌, ◌++◌, map, map-map, map-append, append_assoc, append-nil}
use Prim.Native.Nat.{◌+◌}
use Rattle.number.specs.declared.StmtNo.{StmtNo}
use Rattle.sheet.specs.declared.Unary.{Unary}
use Rattle.sheet.specs.declared.Unary.TheVariants.{Loop, Watching, Trap, Signal}
use Rattle.sheet.specs.declared.Binary.{Binary}
use Rattle.sheet.specs.declared.Binary.TheVariants.{Sequence, Present, Parallel}
use Rattle.sheet.specs.Stmt.{Stmt, one, two, size}
use Rattle.sheet.specs.Read.{further}
use Rattle.sets.specs.Codes.{Codes, replaced, caught_codes}
use Rattle.sets.specs.Static.{K, R}
use Rattle.sets.specs.Faults.{Climb, from, through, behind, looped, besides, climbs}

-- the first statement, with its number, stands in the second
pub data Inside : StmtNo → Stmt → StmtNo → Stmt → Type 0 where
  itself : {n : StmtNo} {t : Stmt} → Inside n t n t
  in_part : {m n : StmtNo} {t p : Stmt} (u : Unary) → Inside m t (further n 1) p → Inside m t n (one u p)
  in_left : {m n : StmtNo} {t p q : Stmt} (b : Binary) → Inside m t (further n 1) p → Inside m t n (two b p q)
  in_right : {m n : StmtNo} {t p q : Stmt} (b : Binary) → Inside m t (further n (1 + size p)) q → Inside m t n (two b p q)

-- what a climb passes on its way leaves X and a wall as they are
pub record KeepsWalls (on : Climb → Climb) : Type 0 where
  pub same_x : (c : Climb) → (on c).at ≡ c.at
  pub wall : (c : Climb) → c.starts ≡ false → (on c).starts ≡ false
  pub no_fault : (c : Climb) → c.starts ≡ false → (on c).fault ≡ c.fault

-- the climbs cs go on as some of ds
pub record GoOn (cs ds : List Climb) : Type 0 where
  pub on : Climb → Climb
  pub keeps : KeepsWalls on
  pub before : List Climb
  pub after : List Climb
  pub are : ds ≡ before ++ (map on cs ++ after)

through_keeps : (f : Codes → Codes) → KeepsWalls (through f)
through_keeps f = record { same_x = λ c. refl; wall = λ c w. w; no_fault = λ c w. refl }

behind_keeps : (p : Stmt) → KeepsWalls (behind p)
behind_keeps p = record { same_x = λ c. refl; wall = λ c w. rw w (and-false (K p 0)); no_fault = λ c w. refl }

looped_keeps : (p : Stmt) → KeepsWalls (looped p)
looped_keeps p = record { same_x = λ c. refl; wall = λ c w. w; no_fault = λ c w. rw w (or-false c.fault) }

module _ {cs ds : List Climb} (g : GoOn cs ds) where
  -- one step further up
  further_on : (f : Climb → Climb) → KeepsWalls f → GoOn cs (map f ds)
  further_on f k =
      let on : Climb → Climb = g.on in
      record {
        on = λ c. f (on c);
        keeps =
            record {
              same_x = λ c. k.same_x (on c) ∙ g.keeps.same_x c;
              wall = λ c w. k.wall (on c) (g.keeps.wall c w);
              no_fault = λ c w. k.no_fault (on c) (g.keeps.wall c w) ∙ g.keeps.no_fault c w;
            };
        before = map f g.before;
        after = map f g.after;
        are = rw (g.are, map-append f g.before (map on cs ++ g.after), map-append f (map on cs) g.after, map-map f on cs);
      }

  beside_after : (ys : List Climb) → GoOn cs (ds ++ ys)
  beside_after ys =
      record {
        on = g.on;
        keeps = g.keeps;
        before = g.before;
        after = g.after ++ ys;
        are = rw (g.are, append_assoc g.before (map g.on cs ++ g.after) ys, append_assoc (map g.on cs) g.after ys);
      }

  beside_before : (xs : List Climb) → GoOn cs (xs ++ ds)
  beside_before xs =
      record {
        on = g.on;
        keeps = g.keeps;
        before = xs ++ g.before;
        after = g.after;
        are = rw (g.are, append_assoc xs g.before (map g.on cs ++ g.after));
      }

map_itself : (cs : List Climb) → map (λ c. c) cs ≡ cs
map_itself [] = refl
map_itself (c ∷ cs) = rw (map_itself cs)

pub walls_stay : {m n : StmtNo} {p t : Stmt} → Inside m p n t → GoOn (climbs m p) (climbs n t)
unfolding climbs
walls_stay {m = m} {p = p} itself =
    record {
      on = λ c. c;
      keeps = record { same_x = λ c. refl; wall = λ c w. w; no_fault = λ c w. refl };
      before = [];
      after = [];
      are = rw (map_itself (climbs m p), append-nil (climbs m p));
    }
walls_stay (in_part {p = p} Loop i) = further_on (walls_stay i) (looped p) (looped_keeps p)
walls_stay (in_part (Watching s) i) = walls_stay i
walls_stay (in_part Trap i) = further_on (walls_stay i) (through caught_codes) (through_keeps caught_codes)
walls_stay (in_part {n = n} {p = p} (Signal s) i) = beside_before (walls_stay i) (from n (R (one (Signal s) p)) ∷ [])
walls_stay (in_left {n = n} {p = p} {q = q} Sequence i) =
    let replacing : Codes → Codes = λ C. replaced C (K q) in
    let ys : List Climb = map (behind p) (climbs (further n (1 + size p)) q) in
    beside_after (further_on (walls_stay i) (through replacing) (through_keeps replacing)) ys
walls_stay (in_left {n = n} {p = p} {q = q} (Present s) i) = beside_after (walls_stay i) (climbs (further n (1 + size p)) q)
walls_stay (in_left {n = n} {p = p} {q = q} Parallel i) =
    let ys : List Climb = map (through (besides p)) (climbs (further n (1 + size p)) q) in
    let left = further_on (walls_stay i) (through (besides q)) (through_keeps (besides q)) in
    beside_before (beside_after left ys) (from n (R (two Parallel p q)) ∷ [])
walls_stay (in_right {n = n} {p = p} {q = q} Sequence i) =
    beside_before (further_on (walls_stay i) (behind p) (behind_keeps p)) (map (through (λ C. replaced C (K q))) (climbs (further n 1) p))
walls_stay (in_right {n = n} {p = p} (Present s) i) = beside_before (walls_stay i) (climbs (further n 1) p)
walls_stay (in_right {n = n} {p = p} {q = q} Parallel i) =
    let xs : List Climb = map (through (besides q)) (climbs (further n 1) p) in
    beside_before (further_on (walls_stay i) (through (besides p)) (through_keeps (besides p))) (from n (R (two Parallel p q)) ∷ xs)
