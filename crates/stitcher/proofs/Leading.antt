-- Lists of stored paths that apply one after the other: their parts, and one path more.
use Rattle.std.proofs.Common.{◌≡◌, ◌≢◌, ℕ, List, [], ◌∷◌, ◌++◌, Option, Some, sym, refl, ap, ◌∙◌, subst, append_assoc}
use Rattle.std.specs.Option.{option_map_or}
use Rattle.std.proofs.lemmas.Option.{same_Some}
use Rattle.partial_path.specs.declared.config.Config.{Config}
use Rattle.partial_path.specs.declared.config.EdgeAt.{EdgeAt}
use Rattle.partial_path.specs.declared.rule.Start.{Start}
use Rattle.partial_path.specs.declared.rule.Start.TheVariants.{After}
use Rattle.partial_path.specs.Rules.{Rule}
use Rattle.partial_path.specs.Apply.{apply}
use Rattle.partial_path.specs.Moved.{moved, moved_start}
use Rattle.partial_path.specs.PathSets.{FileRules}
use Rattle.partial_path.specs.Cutting.{IsStoredIn, edges_in, path_edges, PathsLead, landings}
use Rattle.stitcher.specs.Joins.{start_behind, with_path}

-- a stored path that applies behind these and lands there
pub record IsNext (files : List FileRules) (start : Start) (paths : List (ℕ × Rule)) (mid : Config) (p : ℕ × Rule) (next : Config) : Type 0 where
  pub stored : IsStoredIn files p
  pub begins : moved_start p.0 p.1.start ≡ start_behind start paths mid
  pub applies : apply (moved p.0 p.1) mid ≡ Some next

-- behind the first of the paths it begins where the last one landed
begins_later : (start : Start) (n mid : Config) (paths : List (ℕ × Rule)) (files : List FileRules) → PathsLead files (After n.spot) n paths mid → After mid.spot ≡ start_behind (After n.spot) paths mid
begins_later start n mid [] files h = ap (λ (c : Config). After c.spot) (sym h)
begins_later start n mid (p ∷ paths) files h = refl

pub lead_with : (files : List FileRules) (start : Start) (c mid next : Config) (paths : List (ℕ × Rule)) (p : ℕ × Rule) → PathsLead files start c paths mid → IsNext files start paths mid p next → PathsLead files start c (with_path paths p) next
lead_with files start c mid next [] p h n =
    (n.stored, n.begins, next, ap (apply (moved p.0 p.1)) h ∙ n.applies, refl)
lead_with files start c mid next (x ∷ paths) p h n = (
  h.0,
  h.1,
  h.2,
  h.3,
  lead_with files (After h.2.spot) h.2 mid next paths p h.4
      record { stored = n.stored; begins = n.begins ∙ begins_later start h.2 mid paths files h.4; applies = n.applies },
)

-- where the paths land they land alone
pub lead_once : (files : List FileRules) (start : Start) (c one two : Config) (paths : List (ℕ × Rule)) → PathsLead files start c paths one → PathsLead files start c paths two → one ≡ two
lead_once files start c one two [] h g = sym h ∙ g
lead_once files start c one two (p ∷ paths) h g =
    let same : h.2 ≡ g.2 = same_Some h.2 g.2 (sym h.3 ∙ g.3) in
    lead_once files (After g.2.spot) g.2 one two paths
    (subst (λ (n : Config). PathsLead files (After n.spot) n paths one) same h.4) g.4

-- the parts of a list that leads: its beginning, the path behind it, and the rest
pub record AreParts (files : List FileRules) (start : Start) (c : Config) (before : List (ℕ × Rule)) (p : ℕ × Rule) (after : List (ℕ × Rule)) (end : Config) : Type 0 where
  pub mid : Config
  pub next : Config
  pub leads : PathsLead files start c before mid
  pub one : IsNext files start before mid p next
  pub rest : PathsLead files (After next.spot) next after end

begins_there : (files : List FileRules) (start : Start) (n mid : Config) (paths : List (ℕ × Rule)) (x : ℕ × Rule) (s : Start) → PathsLead files (After n.spot) n paths mid → s ≡ start_behind (After n.spot) paths mid → s ≡ start_behind start (x ∷ paths) mid
begins_there files start n mid [] x s h e = e ∙ ap (λ (c : Config). After c.spot) h
begins_there files start n mid (p ∷ paths) x s h e = e

pub parts : (files : List FileRules) (start : Start) (c end : Config) (before : List (ℕ × Rule)) (p : ℕ × Rule) (after : List (ℕ × Rule)) → PathsLead files start c (before ++ p ∷ after) end → AreParts files start c before p after end
parts files start c end [] p after h = record {
  mid = c;
  next = h.2;
  leads = refl;
  one = record { stored = h.0; begins = h.1; applies = h.3 };
  rest = h.4;
}
parts files start c end (x ∷ before) p after h =
    let r = parts files (After h.2.spot) h.2 end before p after h.4 in record {
      mid = r.mid;
      next = r.next;
      leads = (h.0, h.1, h.2, h.3, r.leads);
      one = record {
        stored = r.one.stored;
        begins = begins_there files start h.2 r.mid before x (moved_start p.0 p.1.start) r.leads r.one.begins;
        applies = r.one.applies;
      };
      rest = r.rest;
    }

-- one path more lands once more
pub landings-with : (files : List FileRules) (start : Start) (c mid next : Config) (paths : List (ℕ × Rule)) (p : ℕ × Rule) → PathsLead files start c paths mid → apply (moved p.0 p.1) mid ≡ Some next → landings c (with_path paths p) ≡ landings c paths ++ next ∷ []
landings-with files start c mid next [] p h g =
    ap (λ (o : Option Config). option_map_or (λ (n : Config). n ∷ landings n []) o []) (ap (apply (moved p.0 p.1)) h ∙ g)
landings-with files start c mid next (x ∷ paths) p h g =
    ap (λ (o : Option Config). option_map_or (λ (n : Config). n ∷ landings n (with_path paths p)) o []) h.3
    ∙ (ap (λ (xs : List Config). h.2 ∷ xs) (landings-with files (After h.2.spot) h.2 mid next paths p h.4 g)
    ∙ ap (λ (o : Option Config). option_map_or (λ (n : Config). n ∷ landings n paths) o [] ++ next ∷ []) (sym h.3))

-- more paths land behind where the first ones do
pub landings-append : (files : List FileRules) (start : Start) (c mid : Config) (paths rest : List (ℕ × Rule)) → PathsLead files start c paths mid → landings c (paths ++ rest) ≡ landings c paths ++ landings mid rest
landings-append files start c mid [] rest h = ap (λ (n : Config). landings n rest) h
landings-append files start c mid (x ∷ paths) rest h =
    ap (λ (o : Option Config). option_map_or (λ (n : Config). n ∷ landings n (paths ++ rest)) o []) h.3
    ∙ (ap (λ (xs : List Config). h.2 ∷ xs) (landings-append files (After h.2.spot) h.2 mid paths rest h.4)
    ∙ ap (λ (o : Option Config). option_map_or (λ (n : Config). n ∷ landings n paths) o [] ++ landings mid rest) (sym h.3))

-- the edges of two lists one after the other, and how many they are
pub path_edges-append : (a b : List (ℕ × Rule)) → path_edges (a ++ b) ≡ path_edges a ++ path_edges b
path_edges-append [] b = refl
path_edges-append (p ∷ a) b =
    ap (λ (es : List EdgeAt). edges_in p ++ es) (path_edges-append a b) ∙ sym (append_assoc (edges_in p) (path_edges a) (path_edges b))

-- paths behind one another: what ends the whole ends the rest
pub split_last : {X : Type 0} (xs : List X) → xs ≢ [] → (before : List X) × (last : X) × (xs ≡ before ++ last ∷ [])
split_last [] some = absurd (some refl)
split_last (x ∷ []) some = ([], x, refl)
split_last (x ∷ y ∷ xs) some =
    let s = split_last (y ∷ xs) (λ e. cc) in (x ∷ s.0, s.1, ap (λ ys. x ∷ ys) s.2)

pub nonempty_with : {X : Type 0} (xs : List X) (y : X) (ys : List X) → xs ++ y ∷ ys ≢ []
nonempty_with [] y ys e = cc
nonempty_with (x ∷ xs) y ys e = cc
