mod TotalLaws
mod CrossingLaws
