mod NameLaws
mod TextReads
mod ItemLaws
mod CopyReads
mod GridReads
mod ListReads
mod DrawLaws
mod AllRead
