-- Why a text is no report: what each fault says of the text. Lines are counted from 1.
use Rattle.std.specs.Prelude.{◌≡◌, ◌≢◌, ◌+◌, ◌≤◌, ◌<◌, ◌⊎◌, ℕ, List, [], ◌∷◌, ◌++◌, if◌then◌else◌}
use Rattle.memchr.specs.Find.{is_byte}
use Rattle.drain_report.specs.declared.fault.ReportFault.{ReportFault}
use Rattle.drain_report.specs.declared.fault.ReportFault.TheVariants.{WrongVersion, MissingLine, BadLine, OutOfRange, AfterEnd, OutOfMemory}
use Rattle.drain_report.specs.declared.head.Head.{Head}
use Rattle.drain_report.specs.Contents.{head_text, version_line, Contents, end_line, report_text}

-- how many line feeds a text has
abbrev pub line_feeds : List ℕ → ℕ
line_feeds [] = 0
line_feeds (x ∷ xs) = (if is_byte 10 x then 1 else 0) + line_feeds xs

-- of so many line feeds all that aren't in the rest are before the line of this number
abbrev pub IsAt : ℕ → ℕ → List ℕ → Type 0
IsAt feeds number rest = number + line_feeds rest ≡ feeds + 1

-- the same of a later line
abbrev pub IsPast : ℕ → ℕ → ℕ → List ℕ → Type 0
IsPast feeds first number rest = (first < number) × IsAt feeds number rest

-- a fault of a line from the first one on: a line is missing if it has no line feed, the others have one
abbrev pub IsLineFault : ℕ → ℕ → ReportFault → Type 0
IsLineFault feeds first WrongVersion = ⊥
IsLineFault feeds first (MissingLine n) = (first ≤ n) × (n ≡ feeds + 1)
IsLineFault feeds first (BadLine n) = (first ≤ n) × (n ≤ feeds)
IsLineFault feeds first (OutOfRange n) = (first ≤ n) × (n ≤ feeds)
IsLineFault feeds first AfterEnd = ⊥
IsLineFault feeds first OutOfMemory = ⊥

-- such a fault, or want of memory
abbrev pub IsListFault : ℕ → ℕ → ReportFault → Type 0
IsListFault feeds first fault = IsLineFault feeds first fault ⊎ (fault ≡ OutOfMemory)

-- the text goes on after this
abbrev pub GoesOn : List ℕ → List ℕ → Type 0
GoesOn text part = (more : List ℕ) × (more ≢ []) × (text ≡ part ++ more)

-- the last line is read, and it has such a fault, or the text goes on
abbrev pub IsEndFault : ℕ → ℕ → List ℕ → ReportFault → Type 0
IsEndFault feeds first rest fault = IsLineFault feeds first fault ⊎ ((fault ≡ AfterEnd) × GoesOn rest end_line)

abbrev pub HasVersion : List ℕ → Type 0
HasVersion text = (rest : List ℕ) × (text ≡ version_line ++ rest)

-- the first lines are a report's
abbrev pub HasHead : List ℕ → Type 0
HasHead text = (head : Head) × (rest : List ℕ) × (text ≡ head_text head ++ rest)

-- what a fault says: of a line only if the version is right, of the end only after a whole report, and that memory ran out
-- only if the first lines are a report's
abbrev pub FaultFits : List ℕ → ReportFault → Type 0
FaultFits text WrongVersion = ¬ HasVersion text
FaultFits text (MissingLine n) = HasVersion text × IsLineFault (line_feeds text) 2 (MissingLine n)
FaultFits text (BadLine n) = HasVersion text × IsLineFault (line_feeds text) 2 (BadLine n)
FaultFits text (OutOfRange n) = HasVersion text × IsLineFault (line_feeds text) 2 (OutOfRange n)
FaultFits text AfterEnd = (w : Contents) × GoesOn text (report_text w)
FaultFits text OutOfMemory = HasHead text
