-- The grammar, as relations: what stands between two sights is this thing. Each production has a case,
-- whose premises are what stands in the text, from left to right, and the rules that it keeps.
use Rattle.std.specs.Prelude.{◌≡◌, ◌≢◌, ℕ, suc, ◌+◌, ◌<◌, ◌≤◌, ℤ, pos, List, [], ◌∷◌, ◌++◌, length, Option, Some, None, true}
use Rattle.nest_lang.specs.declared.tree.Place.{Place}
use Rattle.nest_lang.specs.declared.tree.Place.TheVariants as place
use Rattle.nest_lang.specs.declared.tree.Op.{Op}
use Rattle.nest_lang.specs.declared.tree.Expr.{Expr}
use Rattle.nest_lang.specs.declared.tree.Expr.TheVariants.{Number, Var, Load, Neg, Two}
use Rattle.nest_lang.specs.declared.tree.Stmt.{Stmt}
use Rattle.nest_lang.specs.declared.tree.Stmt.TheVariants.{Let, Set, Store, If}
use Rattle.nest_lang.specs.declared.tree.Head.{Head}
use Rattle.nest_lang.specs.declared.tree.Head.TheVariants.{For, While}
use Rattle.nest_lang.specs.declared.tree.Loop.{Loop}
use Rattle.nest_lang.specs.declared.command.Command.{Command}
use Rattle.nest_lang.specs.declared.command.Command.TheVariants.{Seq, Swap, Skew, Tile, Par, Wave}
use Rattle.nest_tokens.specs.declared.token.Name.{Name}
use Rattle.nest_tokens.specs.declared.token.Mark.TheVariants as mark
use Rattle.nest_tokens.specs.declared.token.Token.TheVariants as token
use Rattle.nest_grammar.specs.declared.version.Version.{Version}
use Rattle.nest_grammar.specs.declared.version.Version.TheVariants.{One, Two as Several}
use Rattle.nest_grammar.specs.declared.file.Scalar.{Scalar}
use Rattle.nest_grammar.specs.declared.file.Item.{Item}
use Rattle.nest_grammar.specs.declared.file.Item.TheVariants.{Data, Ramp}
use Rattle.nest_grammar.specs.declared.file.LoopNames.{LoopNames}
use Rattle.nest_grammar.specs.declared.file.NestUnit.{NestUnit}
use Rattle.nest_grammar.specs.declared.file.File.{File}
use Rattle.nest_grammar.specs.declared.script.CommandWord.TheVariants as word
use Rattle.nest_grammar.specs.Limits.{most_bytes, most_words, most_scalars, most_lets, most_tokens, most_open, most_ifs, most_nests, most_candidates, most_commands, most_rows, most_depth, most_accesses}
use Rattle.nest_grammar.specs.Sights.{Sight, stands, Sees, skip, beyond, spend, afresh, opens, numbered, bound, in_block, of_version, start}
use Rattle.nest_grammar.specs.Readings.{with_sign}
use Rattle.nest_grammar.specs.Names.{Names, declared, place_of, names_of}
use Rattle.nest_grammar.specs.Expressions.{product_of, addition_of, comparison_of}
use Rattle.nest_grammar.specs.Loops.{inside}
use Rattle.nest_grammar.specs.Scripts.{Script, command_word, may_follow, is_row, is_factor, is_size, marked}
use Rattle.nest_grammar.specs.Contents.{ramp_fits}

-- one more token of the expression is not past the limit
abbrev pub Room : Sight → Type 0
Room s = s.spent < most_tokens

-- one more access of the block is not past the limit
abbrev pub AccessRoom : Sight → Type 0
AccessRoom s = s.opened < most_accesses s.version

-- a number stands here
abbrev pub SeesNumber : ℕ → Sight → Type 0
SeesNumber n s = stands s ≡ token.Number n

-- a name stands here
abbrev pub SeesName : Name → Sight → Type 0
SeesName n s = stands s ≡ token.Name n

-- the parts of an expression, each of which the next one is made of
pub data Precedence : Type 0 where
  Unary Term Sum Whole : Precedence

-- `Is names part d s e t`: from s to t stands the expression e, as this part, where these names are visible
-- and d more brackets, parentheses and prefix signs may be open at once. A load is numbered behind the
-- loads of its address.
pub data Is (names : Names) : Precedence → ℕ → Sight → Expr → Sight → Type 0 where
  number : {d n : ℕ} {s : Sight} → SeesNumber n s → Room s → Is names Unary d s (Number (pos n)) (spend s)
  variable : {d : ℕ} {n : Name} {p : Place} {s : Sight} → SeesName n s → place_of names n ≡ Some p → Room s → Is names Unary d s (Var p) (spend s)
  minus : {d : ℕ} {e : Expr} {s t : Sight} → Sees mark.Minus s → Room s → Is names Unary d (spend s) e t → Is names Unary (suc d) s (Neg e) t
  parens : {d : ℕ} {e : Expr} {s t : Sight} → Sees mark.Open s → Room s → Is names Whole d (spend s) e t → Sees mark.Close t → Room t → Is names Unary (suc d) s e (spend t)
  load : {d : ℕ} {e : Expr} {s t : Sight} → Sees mark.OpenBracket s → AccessRoom s → Room s →
      Is names Whole d (spend (opens s)) e t → Sees mark.CloseBracket t → Room t →
      Is names Unary (suc d) s (Load (t.accesses + 1) e) (numbered (spend t))
  factor : {d : ℕ} {e : Expr} {s t : Sight} → Is names Unary d s e t → Is names Term d s e t
  product : {d : ℕ} {o : Op} {a b : Expr} {s t u : Sight} → Is names Term d s a t → product_of (stands t) ≡ Some o → Room t → Is names Unary d (spend t) b u → Is names Term d s (Two o a b) u
  summand : {d : ℕ} {e : Expr} {s t : Sight} → Is names Term d s e t → Is names Sum d s e t
  addition : {d : ℕ} {o : Op} {a b : Expr} {s t u : Sight} → Is names Sum d s a t → addition_of (stands t) ≡ Some o → Room t → Is names Term d (spend t) b u → Is names Sum d s (Two o a b) u
  side : {d : ℕ} {e : Expr} {s t : Sight} → Is names Sum d s e t → Is names Whole d s e t
  comparison : {d : ℕ} {o : Op} {a b : Expr} {s t u : Sight} → Is names Sum d s a t → comparison_of (stands t) ≡ Some o → Room t → Is names Sum d (spend t) b u → Is names Whole d s (Two o a b) u

-- a whole expression
abbrev pub IsExpression : Names → Sight → Expr → Sight → Type 0
IsExpression names s e t = Is names Whole most_open (afresh s) e t

mutual
  -- `IsStmt d names s st ns t`: from s to t stands the statement st, where d more conditions may stand
  -- within one another, and behind it the names ns are visible. A store is numbered behind the loads of
  -- its address and its value.
  pub data IsStmt : ℕ → Names → Sight → Stmt → Names → Sight → Type 0 where
    let_ : {d : ℕ} {names : Names} {n : Name} {e : Expr} {s t u : Sight} → Sees mark.Let s →
        length s.lets < most_lets → SeesName n (skip s) → place_of names n ≡ None → t ≡ bound n (beyond 2 s) →
        Sees mark.Assign t → IsExpression names (skip t) e u →
        IsStmt d names s (Let (length s.lets) e) (names ++ declared n (place.Local (length s.lets)) ∷ []) u
    set : {d k : ℕ} {names : Names} {n : Name} {e : Expr} {s t : Sight} → SeesName n s →
        place_of names n ≡ Some (place.Scalar k) → Sees mark.Assign (skip s) → IsExpression names (beyond 2 s) e t →
        IsStmt d names s (Set k e) names t
    store : {d : ℕ} {names : Names} {a e : Expr} {s t u : Sight} → Sees mark.OpenBracket s → AccessRoom s →
        IsExpression names (skip (opens s)) a t → Sees mark.CloseBracket t → Sees mark.Assign (skip t) →
        IsExpression names (beyond 2 t) e u → IsStmt d names s (Store (u.accesses + 1) a e) names (numbered u)
    when : {d : ℕ} {names : Names} {e : Expr} {xs : List Stmt} {s t u : Sight} → Sees mark.If s →
        IsExpression names (skip s) e t → IsBraced d names t xs u → IsStmt (suc d) names s (If e xs []) names u
    either : {d : ℕ} {names : Names} {e : Expr} {xs ys : List Stmt} {s t u v : Sight} → Sees mark.If s →
        IsExpression names (skip s) e t → IsBraced d names t xs u → Sees mark.Else u → IsBraced d names (skip u) ys v →
        IsStmt (suc d) names s (If e xs ys) names v

  -- "{" { stmt } "}"; a local is visible up to the end of the list
  pub data IsBraced : ℕ → Names → Sight → List Stmt → Sight → Type 0 where
    braced : {d : ℕ} {names ns : Names} {xs : List Stmt} {s t : Sight} → Sees mark.OpenBrace s → IsList d names (skip s) xs ns t → Sees mark.CloseBrace t → IsBraced d names s xs (skip t)

  -- { stmt }
  pub data IsList : ℕ → Names → Sight → List Stmt → Names → Sight → Type 0 where
    none : {d : ℕ} {names : Names} {s : Sight} → IsList d names s [] names s
    more : {d : ℕ} {names ms ns : Names} {xs : List Stmt} {st : Stmt} {s t u : Sight} → IsList d names s xs ms t → IsStmt d ms t st ns u → IsList d names s (xs ++ st ∷ []) ns u

-- the statements of a block, and the names of its locals by their numbers
pub data IsBlock (names : Names) : Sight → List Stmt → List Name → Sight → Type 0 where
  block : {ns : Names} {xs : List Stmt} {s t : Sight} → IsList most_ifs names (in_block s) xs ns t → IsBlock names s xs t.lets t

-- [ "-" ] number
pub data IsSigned : Sight → ℤ → Sight → Type 0 where
  unsigned : {n : ℕ} {s : Sight} → SeesNumber n s → IsSigned s (pos n) (skip s)
  negative : {n : ℕ} {s : Sight} → Sees mark.Minus s → SeesNumber n (skip s) → IsSigned s (with_sign true n) (beyond 2 s)

-- [ "step" signed ], which is 1 where it is not written, and never 0
pub data IsStride : Sight → ℤ → Sight → Type 0 where
  unwritten : {s : Sight} → IsStride s (pos 1) s
  written : {k : ℤ} {s t : Sight} → Sees mark.Step s → IsSigned (skip s) k t → k ≢ pos 0 → IsStride s k t

-- the head of a loop, a block of its own, and the name of the loop's turns
pub data IsHeading (names : Names) : Sight → Head → Option Name → Sight → Type 0 where
  counting : {n : Name} {lower upper : Expr} {k : ℤ} {s t u v : Sight} → Sees mark.For s → SeesName n (skip s) →
      place_of names n ≡ None → Sees mark.Assign (beyond 2 s) → IsExpression names (in_block (beyond 3 s)) lower t →
      Sees mark.Below t → IsExpression names (skip t) upper u → IsStride u k v →
      IsHeading names s (For lower upper k) (Some n) v
  asking : {e : Expr} {s t : Sight} → Sees mark.While s → IsExpression names (in_block (skip s)) e t → IsHeading names s (While e) None t

-- `IsLoops d level names s ls ns t`: from s to t stands a loop at a level, from 0, with the loops in it, where
-- d levels are allowed from here on. A body has a statement or an inner loop.
pub data IsLoops : ℕ → ℕ → Names → Sight → List Loop → List LoopNames → Sight → Type 0 where
  innermost : {d level : ℕ} {names : Names} {h : Head} {n : Option Name} {pre : List Stmt} {lets : List Name} {s t u : Sight} →
      IsHeading names s h n t → Sees mark.OpenBrace t → IsBlock (inside names level n) (skip t) pre lets u → pre ≢ [] →
      Sees mark.CloseBrace u →
      IsLoops (suc d) level names s (record { head = h; pre = pre; post = [] } ∷ []) (record { counter = n; pre = lets; post = [] } ∷ []) (skip u)
  outer : {d level : ℕ} {names : Names} {h : Head} {n : Option Name} {pre post : List Stmt} {lets post_lets : List Name} {ls : List Loop} {ns : List LoopNames} {s t u v w : Sight} →
      IsHeading names s h n t → Sees mark.OpenBrace t → IsBlock (inside names level n) (skip t) pre lets u →
      IsLoops d (suc level) (inside names level n) u ls ns v → IsBlock (inside names level n) v post post_lets w →
      Sees mark.CloseBrace w →
      IsLoops (suc d) level names s (record { head = h; pre = pre; post = post } ∷ ls) (record { counter = n; pre = lets; post = post_lets } ∷ ns) (skip w)

-- number { number }: rows of a nest of this depth
pub data IsRows (depth : ℕ) : Sight → List ℕ → Sight → Type 0 where
  one : {n : ℕ} {s : Sight} → SeesNumber n s → is_row depth n ≡ true → IsRows depth s (n ∷ []) (skip s)
  more : {n : ℕ} {ns : List ℕ} {s t : Sight} → IsRows depth s ns t → length ns < most_rows → SeesNumber n t → is_row depth n ≡ true → IsRows depth s (ns ++ n ∷ []) (skip t)

-- a command that may stand behind others
pub data IsCommand (depth : ℕ) (cs : Script) : Sight → Command → Sight → Type 0 where
  seq : {n : ℕ} {s : Sight} → command_word (stands s) ≡ Some word.Seq → may_follow word.Seq cs ≡ true → SeesNumber n (skip s) → n ≤ depth → IsCommand depth cs s (Seq n) (beyond 2 s)
  swap : {a b : ℕ} {s t : Sight} → command_word (stands s) ≡ Some word.Swap → SeesNumber a (skip s) →
      is_row depth a ≡ true → t ≡ beyond 2 s → SeesNumber b t → is_row depth b ≡ true → b ≢ a →
      IsCommand depth cs s (Swap a b) (skip t)
  skew : {a b : ℕ} {m : ℤ} {s t u : Sight} → command_word (stands s) ≡ Some word.Skew →
      may_follow word.Skew cs ≡ true → SeesNumber a (skip s) → is_row depth a ≡ true → t ≡ beyond 2 s →
      SeesNumber b t → is_row depth b ≡ true → b ≢ a → IsSigned (skip t) m u → is_factor m ≡ true →
      IsCommand depth cs s (Skew a b m) u
  tile : {a n : ℕ} {s t : Sight} → command_word (stands s) ≡ Some word.Tile → SeesNumber a (skip s) →
      is_row depth a ≡ true → t ≡ beyond 2 s → SeesNumber n t → is_size n ≡ true →
      IsCommand depth cs s (Tile a (pos n)) (skip t)
  par : {ns : List ℕ} {s t : Sight} → command_word (stands s) ≡ Some word.Par → IsRows depth (skip s) ns t → IsCommand depth cs s (Par (marked ns)) t
  wave : {ns : List ℕ} {s t : Sight} → command_word (stands s) ≡ Some word.Wave → IsRows depth (skip s) ns t → IsCommand depth cs s (Wave (marked ns)) t

-- command { ";" command }
pub data IsCommands (depth : ℕ) : Sight → Script → Sight → Type 0 where
  one : {c : Command} {s t : Sight} → IsCommand depth [] s c t → IsCommands depth s (c ∷ []) t
  more : {cs : Script} {c : Command} {s t u : Sight} → IsCommands depth s cs t → Sees mark.Semicolon t →
      length cs < most_commands → IsCommand depth cs (skip t) c u → IsCommands depth s (cs ++ c ∷ []) u

-- "{" [ command { ";" command } ] "}"
pub data IsScript (depth : ℕ) : Sight → Script → Sight → Type 0 where
  empty : {s : Sight} → Sees mark.OpenBrace s → Sees mark.CloseBrace (skip s) → IsScript depth s [] (beyond 2 s)
  script : {cs : Script} {s t : Sight} → Sees mark.OpenBrace s → IsCommands depth (skip s) cs t → Sees mark.CloseBrace t → IsScript depth s cs (skip t)

-- { "candidate" script }
pub data IsCandidates (depth : ℕ) : Sight → List Script → Sight → Type 0 where
  none : {s : Sight} → IsCandidates depth s [] s
  more : {scripts : List Script} {cs : Script} {s t u : Sight} → IsCandidates depth s scripts t →
      Sees mark.Candidate t → length scripts < most_candidates → IsScript depth (skip t) cs u →
      IsCandidates depth s (scripts ++ cs ∷ []) u

-- loop { candidate }
pub data IsUnit (version : Version) (names : Names) : Sight → NestUnit → Sight → Type 0 where
  unit : {ls : List Loop} {ns : List LoopNames} {scripts : List Script} {s t u : Sight} →
      IsLoops (most_depth version) 0 names s ls ns t → IsCandidates (length ls) t scripts u →
      IsUnit version names s (record { nest = record { loops = ls }; names = ns; scripts = scripts }) u

-- one nest, or in version 2 up to eight
pub data IsUnits (names : Names) : Version → Sight → List NestUnit → Sight → Type 0 where
  one : {version : Version} {n : NestUnit} {s t : Sight} → IsUnit version names s n t → IsUnits names version s (n ∷ []) t
  more : {ns : List NestUnit} {n : NestUnit} {s t u : Sight} → IsUnits names Several s ns t → length ns < most_nests → IsUnit Several names t n u → IsUnits names Several s (ns ++ n ∷ []) u

-- { "scalar" name "=" signed }
pub data IsScalars : Sight → List Scalar → Sight → Type 0 where
  none : {s : Sight} → IsScalars s [] s
  more : {cs : List Scalar} {n : Name} {v : ℤ} {s t u : Sight} → IsScalars s cs t → Sees mark.Scalar t →
      length cs < most_scalars → SeesName n (skip t) → place_of (names_of cs) n ≡ None →
      Sees mark.Assign (beyond 2 t) → IsSigned (beyond 3 t) v u →
      IsScalars s (cs ++ record { name = n; value = v } ∷ []) u

-- signed { "," signed }: values of words from an address on
pub data IsValues (words first : ℕ) : Sight → List ℤ → Sight → Type 0 where
  one : {v : ℤ} {s t : Sight} → first < words → IsSigned s v t → IsValues words first s (v ∷ []) t
  more : {vs : List ℤ} {v : ℤ} {s t u : Sight} → IsValues words first s vs t → Sees mark.Comma t → first + length vs < words → IsSigned (skip t) v u → IsValues words first s (vs ++ v ∷ []) u

-- "data" number ":" values | "ramp" number number number signed signed
pub data IsItem (words : ℕ) : Sight → Item → Sight → Type 0 where
  data_ : {first : ℕ} {vs : List ℤ} {s t u : Sight} → Sees mark.Data s → SeesNumber first (skip s) → t ≡ beyond 2 s →
      Sees mark.Colon t → IsValues words first (skip t) vs u → IsItem words s (Data first vs) u
  ramp : {first count stride : ℕ} {start growth : ℤ} {s t u v w : Sight} → Sees mark.Ramp s →
      SeesNumber first (skip s) → t ≡ beyond 2 s → SeesNumber count t → u ≡ skip t → SeesNumber stride u → stride ≢ 0 →
      IsSigned (skip u) start v → IsSigned v growth w → ramp_fits words first count stride start growth ≡ true →
      IsItem words s (Ramp first count stride start growth) w

-- { item }
pub data IsItems (words : ℕ) : Sight → List Item → Sight → Type 0 where
  none : {s : Sight} → IsItems words s [] s
  more : {is : List Item} {i : Item} {s t u : Sight} → IsItems words s is t → IsItem words t i u → IsItems words s (is ++ i ∷ []) u

-- "nest" and the number of the version
pub data IsVersion : Sight → Version → Sight → Type 0 where
  one : {s : Sight} → Sees mark.Nest s → SeesNumber 1 (skip s) → IsVersion s One (of_version One (beyond 2 s))
  two : {s : Sight} → Sees mark.Nest s → SeesNumber 2 (skip s) → IsVersion s Several (of_version Several (beyond 2 s))

-- version { scalar } "memory" number { item } units end, in a text of at most 1,048,576 bytes
pub data Reads (text : List ℕ) : File → Type 0 where
  file : {version : Version} {scalars : List Scalar} {words : ℕ} {items : List Item} {units : List NestUnit} {s t u v : Sight} →
      length text ≤ most_bytes → IsVersion (start text) version s → IsScalars s scalars t → Sees mark.Memory t →
      SeesNumber words (skip t) → words ≤ most_words → IsItems words (beyond 2 t) items u →
      IsUnits (names_of scalars) version u units v → stands v ≡ token.End →
      Reads text (record { version = version; scalars = scalars; words = words; items = items; units = units })
