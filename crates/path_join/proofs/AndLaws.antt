-- Laws of tests that are joined by "and".
use Rattle.std.proofs.Common.{◌≡◌, Bool, true, false, ◌&&◌, Option, Some, None, if◌then◌else◌, refl}

pub and_true : (a : Bool) → (a && true) ≡ a
and_true true = refl
and_true false = refl

pub and_false : (a : Bool) → (a && false) ≡ false
and_false true = refl
and_false false = refl

pub and_assoc : (a b c : Bool) → ((a && b) && c) ≡ (a && (b && c))
and_assoc true b c = refl
and_assoc false b c = refl

pub and_comm : (a b : Bool) → (a && b) ≡ (b && a)
and_comm true true = refl
and_comm true false = refl
and_comm false true = refl
and_comm false false = refl

-- the last of three tests may come before the second
pub and_last : (a b c : Bool) → ((a && b) && c) ≡ ((a && c) && b)
and_last true b c = and_comm b c
and_last false b c = refl

-- two pairs of tests may be taken crosswise
pub and_cross : (a b c d : Bool) → ((a && b) && (c && d)) ≡ ((a && c) && (b && d))
and_cross true true c d = refl
and_cross true false true d = refl
and_cross true false false d = refl
and_cross false b c d = refl

-- the second test may be replaced by one that is the same where the first holds
pub and_where : (a b c : Bool) → (a ≡ true → b ≡ c) → (a && b) ≡ (a && c)
and_where true b c h = h refl
and_where false b c h = refl

pub and_both : (a b : Bool) → a ≡ true → b ≡ true → (a && b) ≡ true
and_both true b h k = k
and_both false b h k = h

pub and_first : (a b : Bool) → (a && b) ≡ true → a ≡ true
and_first true b h = refl
and_first false b h = h

pub and_second : (a b : Bool) → (a && b) ≡ true → b ≡ true
and_second true b h = h
and_second false b h = cc

-- a test that can't hold fails
pub fails : (a : Bool) → (a ≡ true → ⊥) → a ≡ false
fails true h = absurd (h refl)
fails false h = refl

-- a value under two tests is one under both
pub if_both : {X : Type 0} (a b : Bool) (o : Option X) (x : X) → o ≡ (if b then Some x else None) → (if a then o else None) ≡ (if a && b then Some x else None)
if_both true b o x h = h
if_both false b o x h = refl

-- two values under one test that are the same where it holds
pub if_where : {X : Type 0} (a : Bool) (x y z : X) → (a ≡ true → x ≡ y) → (if a then x else z) ≡ (if a then y else z)
if_where true x y z h = h refl
if_where false x y z h = refl
