-- The search goes on from one rule to the next, and what it has found when none is left.
use Rattle.std.proofs.Common.{◌≡◌, ◌≤◌, ◌<◌, refl, sym, ap, ◌∙◌, subst, ℕ, suc, ◌+◌, ◌-◌, List, [], ◌∷◌, ◌++◌, map, filter, length, Bool, true, false, Some, arith, length-append, append_assoc, append-nil, ◌⊎◌, inl, inr}
use Rattle.std.specs.Prelude.{All, IsTrue, Contains, ◌↔◌, ◌&&◌}
use Rattle.std.specs.Option.{option_map}
use Rattle.std.specs.List.{AllByRecursion}
use Rattle.std.proofs.lemmas.Bool.{false≢true, and_parts, and_from}
use Rattle.std.proofs.lemmas.Option.{none-some, option_and_then_some}
use Rattle.std.proofs.lemmas.List.{length-map}
use Rattle.graph_nodes.specs.Whole.{is_definition_of}
use Rattle.stacks_vars.specs.declared.scopes.NodeAt.{NodeAt}
use Rattle.stacks_vars.specs.declared.stacks.Stacks.{Stacks}
use Rattle.stacks_vars.specs.declared.patterns.Pre.{Pre}
use Rattle.stacks_vars.specs.Enter.{stacks_of, no_stacks}
use Rattle.partial_path.specs.declared.config.Config.{Config}
use Rattle.partial_path.specs.declared.config.Spot.{Spot}
use Rattle.partial_path.specs.declared.config.Spot.TheVariants.{At}
use Rattle.partial_path.specs.declared.rule.Start.{Start}
use Rattle.partial_path.specs.declared.rule.Start.TheVariants.{Before, After}
use Rattle.partial_path.specs.Rules.{Rule, start_spot}
use Rattle.partial_path.specs.Apply.{apply, after_fixed, match_items, rests_of}
use Rattle.partial_path.specs.Walks.{walk_of}
use Rattle.partial_path.specs.PathSets.{FileRules}
use Rattle.partial_path.specs.Sources.{IsSourceFile, graphs_of}
use Rattle.partial_path.specs.Cutting.{path_edges}
use Rattle.list_facts.specs.Members.{IsIn}
use Rattle.list_facts.specs.Apart.{IsApart}
use Rattle.list_facts.proofs.Members.{IsIn-flat_map, IsIn-flat_map_from, IsIn-from_Contains, Contains-from_IsIn}
use Rattle.list_facts.proofs.Apart.{IsApart-append_left}
use Rattle.list_facts.proofs.Each.{all-append, all-left, all-middle, all_passed}
use Rattle.list_facts.proofs.Tests.{filter-short}
use Rattle.back_stitch.specs.Lists.{most_lists, at_start, LeadTo, IsBackList, HasMany, BeginsList}
use Rattle.back_stitch.specs.Sources.{AreEnds}
use Rattle.back_stitch.specs.Joined.{is_after, is_none}
use Rattle.back_stitch.specs.Paths.{IsBackPath}
use Rattle.back_stitch.specs.Held.{IsBack, IsHeld, AreHeld, begun_at, begun, AreThose, in_front, HasExtended, HasTried, IsOverfull, IsTriedPast, IsOpen, goes_on}
use Rattle.back_stitch.proofs.Matched.{least, least_item, met_many}
use Rattle.back_stitch.proofs.Applied.{applied_by}
use Rattle.back_stitch.proofs.Stood.{leads_chain, stands_least, leads_of, list_of, paths_of, rest_of, nil_is, fit, IsFit}
use Rattle.back_stitch.proofs.Searched.{P, IsSearched, made, made_each, made_apart, known_more, searched_more, searched_first, searched_past, all_known, many, few, held-append}
use Rattle.back_stitch.proofs.Listed.{listed_apart, lists_behind, lists_first, those_more}

module _ (files : List FileRules) (d : NodeAt) where
  -- a rule and its paths

  paths_at : (noted : List (List P)) (rules : List Rule) (j : Rule) → AreHeld files d noted rules → IsIn j rules → (paths : List P) × IsIn paths noted × IsHeld files d paths j
  paths_at [] [] j h here = absurd here
  paths_at [] (x ∷ rules) j h here = absurd h
  paths_at (paths ∷ noted) [] j h here = absurd h
  paths_at (paths ∷ noted) (x ∷ rules) j h (inl is) = (paths, inl refl, subst (IsHeld files d paths) (sym is) h.0)
  paths_at (paths ∷ noted) (x ∷ rules) j h (inr here) =
      let (others, there, held) = paths_at noted rules j h.1 here in (others, inr there, held)

  rule_at : (noted : List (List P)) (rules : List Rule) (paths : List P) → AreHeld files d noted rules → IsIn paths noted → (j : Rule) × IsIn j rules × IsHeld files d paths j
  rule_at [] [] paths h here = absurd here
  rule_at [] (x ∷ rules) paths h here = absurd h
  rule_at (first ∷ noted) [] paths h here = absurd h
  rule_at (first ∷ noted) (x ∷ rules) paths h (inl is) = (x, inl refl, subst (λ (ps : List P). IsHeld files d ps x) (sym is) h.0)
  rule_at (first ∷ noted) (x ∷ rules) paths h (inr here) =
      let (j, there, held) = rule_at noted rules paths h.1 here in (j, inr there, held)

  -- the last one
  record HasLast (opens : List (List P)) (rules : List Rule) (j : Rule) : Type 0 where
    before : List (List P)
    paths : List P
    is : opens ≡ before ++ paths ∷ []
    held : AreHeld files d before rules
    last : IsHeld files d paths j

  last_of : (opens : List (List P)) (rules : List Rule) (j : Rule) → AreHeld files d opens (rules ++ j ∷ []) → HasLast opens rules j
  last_of [] [] j h = absurd h
  last_of [] (x ∷ rules) j h = absurd h
  last_of (paths ∷ []) [] j h = record { before = []; paths = paths; is = refl; held = tt; last = h.0 }
  last_of (paths ∷ more ∷ opens) [] j h = absurd h.1
  last_of (paths ∷ opens) (x ∷ rules) j h =
      let l = last_of opens rules j h.1 in
      record { before = paths ∷ l.before; paths = l.paths; is = ap (λ (ps : List (List P)). paths ∷ ps) l.is; held = (h.0, l.held); last = l.last }

  -- the start of a rule that is held is that of its paths
  start_same : (paths : List P) (j : Rule) (start : Start) → IsHeld files d paths j → IsBackPath files d start paths → j.start ≡ start
  start_same [] j start held back = absurd (back.nonempty refl)
  start_same (p ∷ paths) j start held back = held.joined.begins ∙ back.leads.1

-- references

in_begun : (s : Start) (b : Bool) (r : NodeAt) → IsIn r (begun_at s b) → (s ≡ Before r) × (b ≡ true)
in_begun (Before n) true r (inl is) = (ap Before (sym is), refl)
in_begun (Before n) true r (inr never) = absurd never
in_begun (Before n) false r h = absurd h
in_begun (After at) b r h = absurd h

begun_in : (s : Start) (b : Bool) (r : NodeAt) → s ≡ Before r → b ≡ true → IsIn r (begun_at s b)
begun_in s b r is nothing = subst (λ (x : Start). IsIn r (begun_at x b)) (sym is) (subst (λ (t : Bool). IsIn r (begun_at (Before r) t)) (sym nothing) (inl refl))

least_nothing : (pre : Pre) → (is_none pre.symbols && is_none pre.scopes.fixed) ≡ true → least pre ≡ no_stacks
least_nothing pre h =
    let both = and_parts (is_none pre.symbols) (is_none pre.scopes.fixed) h in
    let a = nil_is pre.symbols both.0 in
    let b = nil_is pre.scopes.fixed both.1 in
    λ i. stacks_of (map least_item (a i)) (b i)

fixed_none : (fixed scopes rest : List NodeAt) → after_fixed fixed scopes ≡ Some rest → scopes ≡ [] → is_none fixed ≡ true
fixed_none [] scopes rest h none = refl
fixed_none (f ∷ fixed) [] rest h none = absurd (none-some rest h)
fixed_none (f ∷ fixed) (s ∷ scopes) rest h none = cc

symbols_none : {X : Type 0} (xs : List X) → length xs ≤ 0 → is_none xs ≡ true
symbols_none [] h = refl
symbols_none (x ∷ xs) h = absurd (omega (arith, h))

-- a rule that applies on empty stacks asks for nothing
asks_nothing : (j : Rule) (c next : Config) → apply j c ≡ Some next → c.stacks ≡ no_stacks → (is_none j.pre.symbols && is_none j.pre.scopes.fixed) ≡ true
asks_nothing j c next applied empty =
    let a = applied_by j c next applied in
    let n : length j.pre.symbols ≤ length c.stacks.symbols = met_many j.pre c.stacks a.rests a.met in
    let z : length c.stacks.symbols ≡ 0 = ap (λ (s : Stacks). length s.symbols) empty in
    option_and_then_some (λ (front : List NodeAt). option_map (rests_of front) (match_items j.pre.symbols c.stacks.symbols)) (after_fixed j.pre.scopes.fixed c.stacks.scopes) a.rests a.met
    (λ front met others.
    and_from (is_none j.pre.symbols) (is_none j.pre.scopes.fixed) (symbols_none j.pre.symbols (omega (arith, n, z)))
    (fixed_none j.pre.scopes.fixed c.stacks.scopes front met (ap (λ (s : Stacks). s.scopes) empty)))

-- each of the rules goes on
abbrev pub GoOn : List Rule → Type 0
GoOn rules = AllByRecursion (λ (j : Rule). goes_on j ≡ true) rules

after_spot : (start : Start) → is_after start ≡ true → start ≡ After (start_spot start)
after_spot (Before r) h = absurd (false≢true h)
after_spot (After x) h = refl

module _ (files : List FileRules) (d : NodeAt) (sources : All IsSourceFile files) (at : IsTrue (is_definition_of (graphs_of files) d.file d.node)) where
  begins_by : (paths : List P) (j : Rule) (r : NodeAt) → IsHeld files d paths j → IsIn r (begun j) → BeginsList (graphs_of files) d r
  begins_by paths j r held here =
      let (start, nothing) = in_begun j.start (is_none j.pre.symbols && is_none j.pre.scopes.fixed) r here in
      let (b, least_is) = stands_least files d paths j held.joined held.lands held.kept in
      let empty : b.stacks ≡ no_stacks = least_is ∙ least_nothing j.pre nothing in (
        path_edges paths,
        subst (λ (s : Start). IsBackList (graphs_of files) d (walk_of s (path_edges paths))) start (list_of files d j.start paths sources b),
        subst (λ (s : Start). LeadTo (graphs_of files) d s (path_edges paths) no_stacks) start
            (subst (λ (t : Stacks). LeadTo (graphs_of files) d j.start (path_edges paths) t) empty (leads_of files d j.start paths sources b)),
      )

  -- the rows are the references that begin back lists on empty stacks
  rows_begin : (noted : List (List P)) (rules : List Rule) (count : ℕ) (rows : List NodeAt) → IsSearched files d sources [] noted rules count rows
      → (r : NodeAt) → Contains rows r ↔ BeginsList (graphs_of files) d r
  rows_begin noted rules count rows s r = (to, from)
    where
      to : Contains rows r → BeginsList (graphs_of files) d r
      to h =
          let here = subst (λ (xs : List NodeAt). IsIn r xs) s.told (IsIn-from_Contains rows r h) in
          let (j, in_rules, in_begun_j) = IsIn-flat_map_from begun r rules here in
          let (paths, in_noted, held) = paths_at files d noted rules j s.held in_rules in
          begins_by paths j r held in_begun_j

      from : BeginsList (graphs_of files) d r → Contains rows r
      from (es, list, leads) =
          let on_empty : IsBackList (graphs_of files) d (walk_of (Before r) es) = record {
            starts = list.starts;
            nonempty = list.nonempty;
            short = list.short;
            stacks = no_stacks;
            exported = (tt, tt);
            leads = leads;
          } in
          let h = paths_of files d (walk_of (Before r) es) sources at on_empty in
          let known = all_known files d sources noted rules count rows s h.paths (Before r, h.back) in
          let (j, in_rules, held) = rule_at files d noted rules h.paths s.held known in
          let c = at_start (Before r) h.back.stacks in
          let applied : apply j c ≡ Some h.back.end = held.joined.applies c ∙ leads_chain files (Before r) c h.back.end h.paths h.back.leads in
          let nothing = asks_nothing j c h.back.end applied h.same in
          let here = begun_in j.start (is_none j.pre.symbols && is_none j.pre.scopes.fixed) r (start_same files d h.paths j (Before r) held h.back) nothing in
          Contains-from_IsIn rows r (subst (λ (xs : List NodeAt). IsIn r xs) (sym s.told) (IsIn-flat_map begun j r rules in_rules here))

  -- what the search knows, and the rules that it has still to go on from, none of which begins before a reference
  pub record IsGoing (work : List Rule) (count : ℕ) (rows : List NodeAt) : Type 0 where
    pub opens : List (List P)
    pub noted : List (List P)
    pub rules : List Rule
    pub searched : IsSearched files d sources opens noted rules count rows
    pub held : AreHeld files d opens work
    pub onward : GoOn work

  -- a rule that begins before a reference has nothing in front
  none_before : (paths : List P) (j : Rule) (r : NodeAt) → IsHeld files d paths j → j.start ≡ Before r → (p : P) → IsBack files d (p ∷ paths) → ⊥
  none_before [] j r held start p back = held.joined.begins
  none_before (q ∷ paths) j r held start p (s, back) =
      let rest = rest_of files d s p q paths sources back in
      let e : Before r ≡ After rest.at = sym start ∙ held.joined.begins ∙ rest.begins in cc

  -- a rule that goes on, and one that doesn't
  filter_yes : (j : Rule) (rules : List Rule) → goes_on j ≡ true → filter goes_on (j ∷ rules) ≡ j ∷ filter goes_on rules
  filter_yes j rules is = rw is refl

  filter_no : (j : Rule) (rules : List Rule) → goes_on j ≡ false → filter goes_on (j ∷ rules) ≡ filter goes_on rules
  filter_no j rules is = rw is refl

  -- of the lists behind those of before the ones that go on, whose rules are these
  record AreOpen (before : List (List P)) (work : List Rule) (noted : List (List P)) (rules : List Rule) (count : ℕ) (rows : List NodeAt) : Type 0 where
    opens : List (List P)
    held : AreHeld files d opens work
    searched : IsSearched files d sources (before ++ opens) noted rules count rows

  put_aside : (before all noted : List (List P)) (these rules : List Rule) (count : ℕ) (rows : List NodeAt) → AreHeld files d all these
      → IsSearched files d sources (before ++ all) noted rules count rows → AreOpen before (filter goes_on these) noted rules count rows
  put_aside before [] noted [] rules count rows h s = record { opens = []; held = tt; searched = s }
  put_aside before [] noted (j ∷ these) rules count rows h s = absurd h
  put_aside before (paths ∷ all) noted [] rules count rows h s = absurd h
  put_aside before (paths ∷ all) noted (j ∷ these) rules count rows h s =
      by j.start refl (λ others t. put_aside others all noted these rules count rows h.1 t)
    where
      by : (start : Start) → j.start ≡ start
          → ((others : List (List P)) → IsSearched files d sources (others ++ all) noted rules count rows → AreOpen others (filter goes_on these) noted rules count rows)
          → AreOpen before (filter goes_on (j ∷ these)) noted rules count rows
      by (Before r) is on =
          subst (λ (js : List Rule). AreOpen before js noted rules count rows) (sym (filter_no j these (ap is_after is)))
          (on before (searched_past files d sources before all noted rules count rows paths s (none_before paths j r h.0 is)))
      by (After x) is on =
          let o = on (before ++ paths ∷ []) (subst (λ (os : List (List P)). IsSearched files d sources os noted rules count rows) (sym (append_assoc before (paths ∷ []) all)) s) in
          subst (λ (js : List Rule). AreOpen before js noted rules count rows) (sym (filter_yes j these (ap is_after is)))
          record {
            opens = paths ∷ o.opens;
            held = (h.0, o.held);
            searched = subst (λ (os : List (List P)). IsSearched files d sources os noted rules count rows) (append_assoc before (paths ∷ []) o.opens) o.searched;
          }

  pub going_first : (listed : List P) (new : ℕ) (after : List NodeAt) (work : List Rule) → AreEnds files (At d) [] listed
      → HasExtended files d [] listed 0 new [] after [] work → IsGoing work new after
  going_first listed new after work ends (added, rules, e, w) =
      let first = searched_first files d sources added listed rules new after (listed_apart files d sources (At d) [] listed ends) (lists_first files d sources listed ends) e in
      let o = put_aside [] (made files d sources [] added) (made files d sources [] added) rules rules new after e.held first in record {
        opens = o.opens;
        noted = made files d sources [] added;
        rules = rules;
        searched = o.searched;
        held = subst (AreHeld files d o.opens) (sym w) o.held;
        onward = subst GoOn (sym w) (all_passed goes_on rules);
      }

  -- the rule that is gone on from begins behind the spot
  start_last : (rest : List Rule) (j : Rule) (x : Spot) (count : ℕ) (rows : List NodeAt) → IsGoing (rest ++ j ∷ []) count rows → x ≡ start_spot j.start → j.start ≡ After x
  start_last rest j x count rows g is = after_spot j.start (all-middle (λ (r : Rule). goes_on r ≡ true) j rest [] g.onward) ∙ ap After (sym is)

  pub going_on : (rest more : List Rule) (j : Rule) (x : Spot) (count new : ℕ) (rows after : List NodeAt) → IsGoing (rest ++ j ∷ []) count rows → x ≡ start_spot j.start
      → HasTried files x (Some j) count new rows after rest more → IsGoing more new after
  going_on rest more j x count new rows after g is t =
      let l = last_of files d g.opens rest j g.held in
      let s = subst (λ (os : List (List P)). IsSearched files d sources os g.noted g.rules count rows) l.is g.searched in
      let start = start_last rest j x count rows g is in
      let (added, rules, e, w) = t.extended d l.paths at (l.last, start) in
      let searched = searched_more files d sources l.before g.noted g.rules rules count new rows after l.paths added t.listed s
      (listed_apart files d sources x j.pre.symbols t.listed t.ends) (behind l.paths l.last start) e in
      let o = put_aside l.before (made files d sources l.paths added) (g.noted ++ made files d sources l.paths added) rules (g.rules ++ rules) new after e.held searched in record {
        opens = l.before ++ o.opens;
        noted = g.noted ++ made files d sources l.paths added;
        rules = g.rules ++ rules;
        searched = o.searched;
        held = subst (AreHeld files d (l.before ++ o.opens)) (sym w) (held-append files d l.before o.opens rest (filter goes_on rules) l.held o.held);
        onward = subst GoOn (sym w)
            (all-append (λ (r : Rule). goes_on r ≡ true) rest (filter goes_on rules) (all-left (λ (r : Rule). goes_on r ≡ true) rest (j ∷ []) g.onward) (all_passed goes_on rules));
      }
    where
      behind : (paths : List P) → IsHeld files d paths j → j.start ≡ After x → (p : P) → IsBack files d (p ∷ paths) → IsIn p t.listed
      behind [] held start p back = absurd held.joined.begins
      behind (q ∷ paths) held start p back = lists_behind files d sources x t.listed j q paths t.ends (sym start ∙ held.joined.begins) held p back

  -- and is within the bounds
  pub open_last : (rest : List Rule) (j : Rule) (count : ℕ) (rows : List NodeAt) → IsGoing (rest ++ j ∷ []) count rows → IsOpen j
  open_last rest j count rows g =
      let fits = fit (graphs_of files) j (last_of files d g.opens rest j g.held).last.kept in
      record { after = all-middle (λ (r : Rule). goes_on r ≡ true) j rest [] g.onward; short = fits.short; low = fits.low }

  -- what is left to do falls
  held_long : (all : List (List P)) (rules : List Rule) → AreHeld files d all rules → length rules ≡ length all
  held_long [] [] h = refl
  held_long [] (j ∷ rules) h = absurd h
  held_long (paths ∷ all) [] h = absurd h
  held_long (paths ∷ all) (j ∷ rules) h = ap suc (held_long all rules h.1)

  extended_long : (paths listed : List P) (old new : ℕ) (before after : List NodeAt) (work more : List Rule) → HasExtended files d paths listed old new before after work more
      → old + length more ≤ new + length work
  extended_long paths listed old new before after work more (added, rules, e, w) =
      let n : new ≡ old + length added = e.count in
      let m : length more ≡ length work + length (filter goes_on rules) = ap length w ∙ length-append work (filter goes_on rules) in
      let s : length (filter goes_on rules) ≤ length rules = filter-short goes_on rules in
      let k : length rules ≡ length (made files d sources paths added) = held_long (made files d sources paths added) rules e.held in
      let i : length (made files d sources paths added) ≡ length added = length-map added (in_front paths) in
      omega (arith, n, m, s, k, i)

  pub falls : (rest more : List Rule) (j : Rule) (x : Spot) (count new : ℕ) (rows after : List NodeAt) → IsGoing (rest ++ j ∷ []) count rows → x ≡ start_spot j.start
      → HasTried files x (Some j) count new rows after rest more → new ≤ most_lists → (most_lists - new) + length more < (most_lists - count) + length (rest ++ j ∷ [])
  falls rest more j x count new rows after g is t few =
      let l = last_of files d g.opens rest j g.held in
      let h = t.extended d l.paths at (l.last, start_last rest j x count rows g is) in
      let n : count + length more ≤ new + length rest = extended_long l.paths t.listed count new rows after rest more h in
      let m : length (rest ++ j ∷ []) ≡ length rest + 1 = length-append rest (j ∷ []) in
      let k : new ≡ count + length h.0 = h.2.count in
      omega (arith, n, m, few, k)

  -- one too many

  made_long : (paths added : List P) → length (made files d sources paths added) ≡ length added
  made_long paths added = length-map added (in_front paths)

  one_those : (paths : List P) (p : P) → IsBack files d (p ∷ paths) → AreThose (λ (x : P). IsBack files d (x ∷ paths)) (p ∷ []) (p ∷ [])
  one_those paths p back = record { sound = λ x h. (h, only x h); complete = λ x h q. h; apart = λ h. h }
    where
      only : (x : P) → (x ≡ p) ⊎ IsIn x [] → IsBack files d (x ∷ paths)
      only x (inl h) = subst (λ (y : P). IsBack files d (y ∷ paths)) (sym h) back
      only x (inr never) = absurd never

  part_apart : (part rest : List P) (p : P) (listed : List P) → listed ≡ part ++ p ∷ rest → IsApart listed → IsApart (part ++ p ∷ [])
  part_apart part rest p listed is apart =
      IsApart-append_left (part ++ p ∷ []) rest (subst (λ (xs : List P). IsApart xs) (is ∙ sym (append_assoc part (p ∷ []) rest)) apart)

  pub many_first : (listed : List P) → AreEnds files (At d) [] listed → IsOverfull files d [] listed 0 → HasMany (graphs_of files) d
  many_first listed ends o =
      let those = those_more files d [] o.part o.added (o.next ∷ []) (o.next ∷ []) o.those (one_those [] o.next o.back) in
      let added : List P = o.added ++ o.next ∷ [] in
      let apart = those.apart (part_apart o.part o.rest o.next listed o.whole (listed_apart files d sources (At d) [] listed ends)) in
      let n : length added ≡ length o.added + 1 = length-append o.added (o.next ∷ []) in
      let m : length (made files d sources [] added) ≡ length added = made_long [] added in
      let full : 0 + length o.added ≡ most_lists = o.full in
      many files d sources (made files d sources [] added) (made_each files d sources [] added (o.part ++ o.next ∷ []) those) (made_apart files d sources [] added apart) (omega (arith, n, m, full))

  pub many_on : (rest : List Rule) (j : Rule) (x : Spot) (count : ℕ) (rows : List NodeAt) → IsGoing (rest ++ j ∷ []) count rows → x ≡ start_spot j.start
      → IsTriedPast files x (Some j) count → HasMany (graphs_of files) d
  many_on rest j x count rows g is t =
      let l = last_of files d g.opens rest j g.held in
      let s = subst (λ (os : List (List P)). IsSearched files d sources os g.noted g.rules count rows) l.is g.searched in
      let o = t.past d l.paths at (l.last, start_last rest j x count rows g is) in
      let those = those_more files d l.paths o.part o.added (o.next ∷ []) (o.next ∷ []) o.those (one_those l.paths o.next o.back) in
      let added : List P = o.added ++ o.next ∷ [] in
      let both = known_more files d sources l.before g.noted g.rules count rows l.paths added (o.part ++ o.next ∷ []) s
      (part_apart o.part o.rest o.next t.listed o.whole (listed_apart files d sources x j.pre.symbols t.listed t.ends)) those in
      let n : length added ≡ length o.added + 1 = length-append o.added (o.next ∷ []) in
      let m : length (made files d sources l.paths added) ≡ length added = made_long l.paths added in
      let k : length (g.noted ++ made files d sources l.paths added) ≡ length g.noted + length (made files d sources l.paths added) = length-append g.noted (made files d sources l.paths added) in
      let c : count ≡ length g.noted = s.counted in
      let full : count + length o.added ≡ most_lists = o.full in
      many files d sources (g.noted ++ made files d sources l.paths added) both.0 both.1 (omega (arith, n, m, k, c, full))

  -- in the end no rule is left to be gone on from
  none_left : (work : List Rule) (count : ℕ) (rows : List NodeAt) → work ≡ [] → IsGoing work count rows → (noted : List (List P)) × (rules : List Rule) × IsSearched files d sources [] noted rules count rows
  none_left work count rows none g =
      (g.noted, g.rules, subst (λ (os : List (List P)). IsSearched files d sources os g.noted g.rules count rows) (no_opens g.opens (subst (AreHeld files d g.opens) none g.held)) g.searched)
    where
      no_opens : (opens : List (List P)) → AreHeld files d opens [] → opens ≡ []
      no_opens [] h = refl
      no_opens (paths ∷ opens) h = absurd h

  -- so the rows are those references, and there aren't too many lists
  pub all_begin : (work : List Rule) (count : ℕ) (rows : List NodeAt) → work ≡ [] → IsGoing work count rows → (r : NodeAt) → Contains rows r ↔ BeginsList (graphs_of files) d r
  all_begin work count rows none g =
      let (noted, rules, searched) = none_left work count rows none g in rows_begin noted rules count rows searched

  pub all_few : (work : List Rule) (count : ℕ) (rows : List NodeAt) → work ≡ [] → IsGoing work count rows → count ≤ most_lists → HasMany (graphs_of files) d → ⊥
  all_few work count rows none g low =
      let (noted, rules, searched) = none_left work count rows none g in few files d sources noted rules count rows at searched low
