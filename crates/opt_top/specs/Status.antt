-- The number of a status, and the message that tells it.
use Rattle.std.specs.Prelude.{ℕ, List, [], ◌∷◌, ◌++◌, codes, decimal, cond, nat_lt, ◌==◌}
use Rattle.spv_base.specs.declared.fault.Refusal.{Refusal}
use Rattle.opt_top.specs.declared.status.Status.{Status}
use Rattle.opt_top.specs.declared.status.Status.TheVariants.{Done, Refused, Usage, ReadFault, WriteFault, Limit, NoMemory}

abbrev pub number_of : Status → ℕ
number_of Done = 0
number_of (Refused refusal) = 1
number_of (Usage fault) = 2
number_of ReadFault = 3
number_of WriteFault = 4
number_of (Limit number) = 5
number_of NoMemory = 6

-- a rule's three digits and its name: rules on bytes, instructions, layout and declarations
abbrev pub early_text : ℕ → List ℕ
early_text rule =
    cond (rule == 1) (codes "001 ShortInput")
    (cond (rule == 2) (codes "002 OddLength")
    (cond (rule == 3) (codes "003 NotSpirv")
    (cond (rule == 101) (codes "101 Version")
    (cond (rule == 102) (codes "102 Schema")
    (cond (rule == 103) (codes "103 Bound")
    (cond (rule == 104) (codes "104 ZeroCount")
    (cond (rule == 105) (codes "105 PastEnd")
    (cond (rule == 106) (codes "106 UnknownOpcode")
    (cond (rule == 107) (codes "107 OperandCount")
    (cond (rule == 108) (codes "108 BadString")
    (cond (rule == 109) (codes "109 BadEnumerant")
    (cond (rule == 201) (codes "201 LayoutOrder")
    (cond (rule == 202) (codes "202 MissingCapability")
    (cond (rule == 203) (codes "203 MissingMemoryModel")
    (cond (rule == 204) (codes "204 MissingEntryPoint")
    (cond (rule == 205) (codes "205 FunctionShape")
    (cond (rule == 301) (codes "301 IdTwice")
    (cond (rule == 302) (codes "302 IdUnknown")
    (cond (rule == 303) (codes "303 BadType")
    (cond (rule == 304) (codes "304 BadConstant")
    (cond (rule == 305) (codes "305 BadSpecOp")
    (cond (rule == 306) (codes "306 BadDecoration")
    (cond (rule == 307) (codes "307 BadLayout")
    (cond (rule == 308) (codes "308 BadGlobal")
    (cond (rule == 309) (codes "309 TypeDepth")
    [])))))))))))))))))))))))))

-- rules on control flow, on the instructions of functions and on the whole module
abbrev pub late_text : ℕ → List ℕ
late_text rule =
    cond (rule == 401) (codes "401 NoTerminator")
    (cond (rule == 402) (codes "402 BadTarget")
    (cond (rule == 403) (codes "403 BadMerge")
    (cond (rule == 404) (codes "404 CaseFall")
    (cond (rule == 405) (codes "405 BadContinue")
    (cond (rule == 406) (codes "406 BadPhi")
    (cond (rule == 407) (codes "407 BareBranch")
    (cond (rule == 408) (codes "408 SameLabels")
    (cond (rule == 410) (codes "410 HeaderSplit")
    (cond (rule == 501) (codes "501 OperandType")
    (cond (rule == 502) (codes "502 ResultType")
    (cond (rule == 503) (codes "503 NotAvailable")
    (cond (rule == 504) (codes "504 StorageUse")
    (cond (rule == 505) (codes "505 ScopeOrSemantics")
    (cond (rule == 506) (codes "506 CallShape")
    (cond (rule == 507) (codes "507 ReturnType")
    (cond (rule == 601) (codes "601 CallCycle")
    (cond (rule == 602) (codes "602 Interface")
    (cond (rule == 603) (codes "603 Binding")
    (cond (rule == 604) (codes "604 EntryName")
    (cond (rule == 605) (codes "605 LocalSize")
    (cond (rule == 606) (codes "606 EntryFunction")
    (cond (rule == 607) (codes "607 ManyExits")
    []))))))))))))))))))))))

abbrev pub rule_text : ℕ → List ℕ
rule_text rule = cond (nat_lt rule 400) (early_text rule) (late_text rule)

-- a text, a number and a line's end
abbrev pub number_line : List ℕ → ℕ → List ℕ
number_line front number = front ++ (decimal number ++ 10 ∷ [])

abbrev pub refusal_line : Refusal → List ℕ
refusal_line refusal = number_line (codes "error: " ++ (rule_text refusal.rule ++ codes " at word ")) refusal.at

-- the one line that tells how a run ended; nothing where it is done
abbrev pub message_of : Status → List ℕ
message_of Done = []
message_of (Refused refusal) = refusal_line refusal
message_of (Usage fault) = codes "error: usage: NotYet\n"
message_of ReadFault = codes "error: read fault\n"
message_of WriteFault = codes "error: write fault\n"
message_of (Limit number) = number_line (codes "error: limit ") number
message_of NoMemory = codes "error: out of memory\n"
